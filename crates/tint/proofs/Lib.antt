-- Lemmas of the tint order. Those of one function of the code stand in the folder of its name. The format and what is refused:
-- Entries; a list filled, and a list overwritten, from the front: FromTheFront; doses in an array, and arrays and slices filled
-- from the front: Arrays; that writing and reading undo each other: RoundTrip; an order sent: Delivered.
pub mod Entries
pub mod FromTheFront
pub mod Arrays
pub mod RoundTrip
pub mod Delivered
