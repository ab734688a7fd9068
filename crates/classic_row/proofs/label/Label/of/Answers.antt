-- `of` satisfies its contract, in each case of the row's kind and of the search's result.
use Rattle.std.proofs.Common.{◌≡◌, ℕ, List, sym, ap, ◌∙◌, refl, Option, Some}
use Rattle.table.specs.Rows.{rows_of, row_at, nth, nth_row, all_at}
use Rattle.table.specs.declared.Row.{Row}
use Rattle.table.proofs.SearchLaws.{found_in_table}
use Rattle.table.specs.RowBytes.{class_at}
use Rattle.classic.specs.ClassicText.{object_array_type}
use Rattle.classic.specs.RowBounds.{RowNumbersInBounds, KnownKind}
use Rattle.class_index.specs.LastSearch.{ClassFound}
use Rattle.classic_row.specs.Label.{class_label, primitive_label, needs_class_row, no_label, object_label, array_label}
use Rattle.classic_row.proofs.label.Label.of.Goals as goal

pub returns-then-row-eq1 : goal.returns-then-row-eq1
returns-then-row-eq1 c = class_label _ _ c.args.row _ tt c.if-row-eq1.true refl c.name_of.ensures

pub returns-then-row-eq4 : goal.returns-then-row-eq4
returns-then-row-eq4 c = primitive_label c.args.names.now _ c.args.row _ c.requires.row_numbers_in_bounds.prim_lt c.if-row-eq4.true refl refl

-- The search for the class word of a row that is neither a class nor a primitive array had this result.
searched : (names : List ℕ) (rows : List Row) (r : Row) (found result : Option ℕ) → KnownKind r → (r.kind ≡ 1 → ⊥) → (r.kind ≡ 4 → ⊥) → ClassFound rows r found → found ≡ result
    → class_at rows r.class ≡ result
searched names rows r found result k a p f e = sym (f.is (needs_class_row names rows r k a p)) ∙ e

pub returns-in_default : goal.returns-in_default
returns-in_default c =
    let n = c.args.names.now in
    let f = searched n _ c.args.row _ _ c.requires.known_kind c.if-row-eq1.false c.if-row-eq4.false c.requires.class_found c.in_default.is in
    no_label n _ c.args.row c.requires.known_kind c.if-row-eq1.false c.if-row-eq4.false f

-- The class row that was found.
class_row : (rows : List ℕ) (a i : ℕ) (class : Row) → class_at (rows_of rows) a ≡ Some i → class ≡ row_at rows i → class ≡ nth (rows_of rows) i
class_row rows a i class f e = e ∙ sym (nth_row rows i (found_in_table _ _ _ f))

pub row_at-class-requires : goal.row_at-class-requires
row_at-class-requires c =
    found_in_table _ _ _ (searched c.args.names.now _ c.args.row _ _ c.requires.known_kind c.if-row-eq1.false c.if-row-eq4.false c.requires.class_found c.in-Some.is)

pub name_of-name-requires : goal.name_of-name-requires
name_of-name-requires c =
    let f = searched c.args.names.now _ c.args.row _ _ c.requires.known_kind c.if-row-eq1.false c.if-row-eq4.false c.requires.class_found c.in-Some.is in
    let n = all_at (RowNumbersInBounds c.args.names.now) c.args.rows.now c.in-Some.i c.requires.all_numbers_in_bounds.row (found_in_table _ _ _ f) in
    rw c.row_at-class.ensures n.name_in_bounds

pub returns-then-row-eq2 : goal.returns-then-row-eq2
returns-then-row-eq2 c =
    let n = c.args.names.now in
    let f = searched n _ c.args.row _ _ c.requires.known_kind c.if-row-eq1.false c.if-row-eq4.false c.requires.class_found c.in-Some.is in
    let class = class_row c.args.rows.now _ _ _ f c.row_at-class.ensures in
    object_label n _ c.args.row c.requires.known_kind c.if-row-eq1.false c.if-row-eq4.false _ tt _ f c.if-row-eq2.true
    (ap (λ (r : Row). r.size) class) (c.name_of-name.ensures ∙ rw class)

pub returns-else-row-eq2 : goal.returns-else-row-eq2
returns-else-row-eq2 c =
    let n = c.args.names.now in
    let f = searched n _ c.args.row _ _ c.requires.known_kind c.if-row-eq1.false c.if-row-eq4.false c.requires.class_found c.in-Some.is in
    let class = class_row c.args.rows.now _ _ _ f c.row_at-class.ensures in
    array_label n _ c.args.row c.requires.known_kind c.if-row-eq1.false c.if-row-eq4.false _ tt _ f c.if-row-eq2.false
    refl (ap object_array_type (c.name_of-name.ensures ∙ rw class))
