-- What a reader of crate `lane` has to believe: document 01, section by section, and document 02's requests. Nothing here is proved; proofs/ has the laws.
pub mod Words
pub mod Load
pub mod Store
pub mod Swap
pub mod Lut
pub mod Config
pub mod Compute
pub mod Rule
pub mod Refusals
