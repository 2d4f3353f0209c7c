-- What a reader of crate `runner` has to believe: document 01's runs, over the lane rules of crate `lane`, with a Dst that document 02's STORE writes. Nothing here is proved.
pub mod Image
pub mod Checks
pub mod Run
pub mod Walk
-- The vocabulary of private functions, which no promise rests on: pass over it.
pub mod PrivateQuick
pub mod PrivateRows
pub mod PrivateCompute
pub mod PrivateLoad
pub mod PrivateSwap
pub mod PrivateLut
pub mod PrivateConfig
pub mod PrivateStore
pub mod PrivateSteps
