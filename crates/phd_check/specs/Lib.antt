-- GoodRows (which header and which rows may be written) and WellFormed (what holds of a good header and good rows).
pub mod GoodRows
pub mod WellFormed
