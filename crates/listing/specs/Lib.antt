-- What a reader of crate `listing` has to believe: document 01's listings and the program's report. Nothing here is proved.
pub mod Forms
pub mod Listing
pub mod Report
pub mod Program
-- The vocabulary of private functions, which no promise rests on: pass over it.
pub mod PrivatePlaces
pub mod PrivateReader
pub mod PrivateLines
