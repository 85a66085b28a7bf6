pub mod MarkLaws
pub mod Flights
