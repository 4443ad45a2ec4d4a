-- Lemmas of the calls for C and Rust; those of one function of the code stand in the folder of its file.
-- A state's bytes: Flags, Places. What a state's fields may be: Ranges (sender), ReceiverRange. Written and read back: RoundTrip.
-- The number that a call returns: CallNumbers; that it tells whether the call was refused: Refused. How many bits a receiving call
-- tells as used: UsedTold. Doses as numbers: DoseNumbers; what the tint calls answer: HeldDoses; that they undo each other:
-- TintRoundTrip.
pub mod Flags
pub mod Places
pub mod Ranges
pub mod ReceiverRange
pub mod RoundTrip
pub mod DoseNumbers
pub mod HeldDoses
pub mod CallNumbers
pub mod Refused
pub mod UsedTold
pub mod TintRoundTrip
