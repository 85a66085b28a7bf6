mod TakenCells
mod KeptTrucks
mod Walked
