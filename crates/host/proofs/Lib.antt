-- Laws behind the host's answers.
pub mod Told
pub mod Lengths
