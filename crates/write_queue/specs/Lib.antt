pub mod Numbers
pub mod Flights
