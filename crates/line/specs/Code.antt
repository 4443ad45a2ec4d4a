-- What the private functions of src/ promise; no public call's promise rests on it.
pub mod Table
pub mod SendSteps
pub mod ReceiveSteps
