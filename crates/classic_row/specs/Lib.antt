-- Label: the label of a row. RowText: a row's two lines as the functions write them, and the proof that they are those of the
-- definition.
pub mod Label
pub mod RowText
