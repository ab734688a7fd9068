-- CheckLaws (laws of the tests of GoodRows and of the first bad row).
pub mod CheckLaws
