-- The tint order: the refusals' numbers, the format, the calls; that writing and reading undo each other; and that an order sent
-- is read as the same doses.
pub mod Refusals
pub mod Format
pub mod Calls
pub mod RoundTrip
pub mod Delivered
pub mod Code
