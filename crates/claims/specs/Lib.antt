-- What a registrar may rely on, on one page, and document 01's twelve. Nothing here is assumed: proofs/ proves each claim.
pub mod Twelve
pub mod Claims
