-- Digits: texts and numbers as bytes. DigitLengths: how many bytes numbers have as digits. DigitParts: the digits of a number in
-- two parts.
pub mod Digits
pub mod DigitLengths
pub mod DigitParts
