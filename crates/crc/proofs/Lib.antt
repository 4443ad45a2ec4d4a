-- Lemmas of the cyclic check; those of one function of the code stand in its folder.
-- Rows of bits and numbers: Xor, Rows; bytes: Bytes. The remainder: Linear (of a sum), Division (divisible or not), Zeros (with zero
-- bits around the row), Codeword (with check bits). What the check finds: Detect. The register and its formulas: Register, Basis;
-- lists of words: Words; a word folded into those behind it: Folding; the bytes before the first whole word: Head.
pub mod Xor
pub mod Rows
pub mod Bytes
pub mod Linear
pub mod Division
pub mod Register
pub mod Basis
pub mod Zeros
pub mod Codeword
pub mod Detect
pub mod Words
pub mod Folding
pub mod Head
