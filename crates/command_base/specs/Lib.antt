pub mod Invocation
pub mod Prints
pub mod LogFiles
pub mod Status
pub mod Ends
