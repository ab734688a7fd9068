-- No line of a written text but the version line ends in a space; the version line does exactly if the VM string is absent, is
-- empty or ends in a space itself (docs/FORMAT.md 7.1; 01 demands "no trailing space but where shown").
-- A reader must believe `last_or`, `last_byte`, `EndsInSpace` and `Each`. Assumes nothing.
use Rattle.std.specs.Prelude.{◌≡◌, ◌↔◌, ◌⊎◌, Bool, cond, ◌&&◌, leb, ltb, eqb, length, get_or, Option, Some, None}
use Rattle.std.proofs.Math.Path.{refl}
use Rattle.std.proofs.Common.{inl, inr, arith}
use Prim.Native.Nat.{ℕ, zero, suc, ◌+◌, ◌-◌, ◌/◌, ◌%◌, ◌≤◌, ◌<◌}
use Rattle.std.proofs.Math.Bool.{true, false}
use mathlib.Core.List.{List, [], ◌∷◌, ◌++◌, append-nil, map-append}
use borrow.Author.Tests.{leb-true, ltb-false, eq-eqb, ne_eqb}
use Rattle.decode.specs.Numbers.{all_within}
use Rattle.decode.specs.Values.{and_left, and_right}
use Rattle.decode.specs.declared.StringSpan.{StringSpan}
use Rattle.encode.specs.Encode.{join}
use Rattle.digits.specs.Digits.{ascii, text_decimal, uppercase, upper_digits, decimal, digit_count}
use Rattle.digits.specs.DigitLengths.{upper_digits_ten, digit_count_fewest}
use Rattle.table.specs.Rows.{is_kind, nth, All, all_nth, without_place, rec_of, refs_of, name_of}
use Rattle.table.specs.Search.{first_row, found_row}
use Rattle.table.specs.declared.Row.{Row}
use Rattle.phd.specs.Shapes.{ValidBits}
use Rattle.phd.specs.declared.Header.{Header}
use Rattle.phd_check.specs.GoodRows.{good_row, vm_text, TablesGood}
use Rattle.phd_check.specs.WellFormed.{GoodKind, a_class, an_object, an_array, a_primitive, good_rec, each_row, header_bits_good}
use Rattle.classic.specs.ClassicText.{address, class_missing, letters, primitive_array_type, object_array_type, type_of, first_line, refs_text, second_line, row_lines, version_line, breakdown_line, totals_line, text_lines}
use Rattle.table.specs.RowBytes.{class_at, naming_class}
use Rattle.classic.specs.ClassRows.{ClassMissing}
use Rattle.classic_write.specs.TextTheorems.{no_class_missing, class_at_first, class_at_none}

-- The last of some bytes, or b if there are none.
unfoldable pub last_or : ℕ → List ℕ → ℕ
last_or b [] = b
last_or b (c ∷ rest) = last_or c rest

-- The last byte of a line, or 0 if the line is empty.
unfoldable pub last_byte : List ℕ → ℕ
last_byte line = last_or 0 line

-- A line's last byte is a space.
abbrev pub EndsInSpace : List ℕ → Type 0
EndsInSpace line = last_byte line ≡ 0x20

-- Every line of a list satisfies P.
abbrev pub Each : (List ℕ → Type 0) → List (List ℕ) → Type 0
Each P [] = Unit {0}
Each P (line ∷ rest) = P line × Each P rest

-- If no line of a list ends in a space, none at any index does; past the end of the list `get_or` gives an empty line.
each_at : (ls : List (List ℕ)) (i : ℕ) → Each (λ line. EndsInSpace line → ⊥) ls → EndsInSpace (get_or ls i []) → ⊥
unfolding last_byte last_or
each_at [] i n e = omega arith
each_at (l ∷ ls) zero n e = n.0 e
each_at (l ∷ ls) (suc i) n e = each_at ls i n.1 e

-- ---- the version line

version_by : (b : Bool) (text : List ℕ) → EndsInSpace (ascii "// Version: " ++ cond b text []) ↔ ((b ≡ false) ⊎ ((text ≡ []) ⊎ EndsInSpace text))
unfolding last_byte last_or
version_by false text = (λ _. inl refl, λ _. refl)
version_by true [] = (λ _. inr (inl refl), λ _. refl)
version_by true (c ∷ rest) = (λ e. inr (inr e), inverse)
  where
    inverse : (true ≡ false) ⊎ ((c ∷ rest ≡ []) ⊎ EndsInSpace (c ∷ rest)) → last_or c rest ≡ 0x20
    inverse (inl e) = let z : ◌≡◌ {A = ℕ} 0 1 = cc in absurd (omega arith)
    inverse (inr (inl e)) = let z : ◌≡◌ {A = ℕ} 0 1 = cc in absurd (omega arith)
    inverse (inr (inr e)) = e

-- The version line ends in a space exactly if there is no VM string, or it has no bytes, or it ends in a space.
pub version_ends_in_space : (names : List ℕ) (t : StringSpan) → EndsInSpace (version_line names t) ↔ ((t.present ≡ false) ⊎ ((vm_text names t ≡ []) ⊎ EndsInSpace (vm_text names t)))
unfolding version_line
version_ends_in_space names t = version_by t.present (vm_text names t)

-- ---- bytes that do not end in a space

-- There is a last byte, and it is not a space. (b is any byte before them; if there were no bytes, b could be a space.)
record NoFinalSpace (bytes : List ℕ) : Type 0 where
  last : (b : ℕ) → last_or b bytes ≡ 0x20 → ⊥

final_one : (b : ℕ) → 0x20 < b → NoFinalSpace (b ∷ [])
unfolding last_or
final_one b l = record { last = λ _ e. omega arith }

final_append : (xs : List ℕ) {ys : List ℕ} → NoFinalSpace ys → NoFinalSpace (xs ++ ys)
unfolding last_or
final_append [] n = n
final_append (x ∷ xs) n = record { last = λ _. (final_append xs n).last x }

-- The last of the lists that are joined.
abbrev last_part : List (List ℕ) → List ℕ
last_part [] = []
last_part (x ∷ []) = x
last_part (x ∷ y ∷ rest) = last_part (y ∷ rest)

final_join : (parts : List (List ℕ)) → NoFinalSpace (last_part parts) → NoFinalSpace (join parts)
final_join [] n = n
final_join (x ∷ []) n = rw append-nil n
final_join (x ∷ y ∷ rest) n = final_append x (final_join (y ∷ rest) n)

-- If all bytes are 0x21 to 0x7E, each is above 0x20.
within_at : (bytes : List ℕ) (i : ℕ) → all_within 0x21 0x7E bytes ≡ true → i < length bytes → 0x20 < get_or bytes i 0
unfolding all_within
within_at [] i w l = absurd (omega arith)
within_at (b ∷ rest) zero w l = leb-true 0x21 b (and_left (leb 0x21 b) (leb b 0x7E) (and_left (leb 0x21 b && leb b 0x7E) (all_within 0x21 0x7E rest) w))
within_at (b ∷ rest) (suc i) w l = within_at rest i (and_right (leb 0x21 b && leb b 0x7E) (all_within 0x21 0x7E rest) w) (omega arith)

-- If all bytes are 0x21 to 0x7E and there is at least one, the last is not a space.
final_within : (bytes : List ℕ) → all_within 0x21 0x7E bytes ≡ true → 1 ≤ length bytes → NoFinalSpace bytes
unfolding all_within last_or
final_within [] w l = absurd (omega arith)
final_within (b ∷ []) w l = final_one b (within_at (b ∷ []) 0 w l)
final_within (b ∷ c ∷ rest) w l =
    let v = and_right (leb 0x21 b && leb b 0x7E) (all_within 0x21 0x7E (c ∷ rest)) w in
    record { last = λ _. (final_within (c ∷ rest) v (omega arith)).last b }

-- ---- numbers

-- The byte of a digit is at least 48, that of `0`.
digit_least : (d : ℕ) → 48 ≤ cond (ltb d 10) (48 + d) (87 + d)
digit_least d = by (ltb d 10)
  where
    by : (b : Bool) → 48 ≤ cond b (48 + d) (87 + d)
    by true = omega arith
    by false = omega arith

-- In upper case it is still above 0x20.
uppercase_above_space : (c : ℕ) → 48 ≤ c → 0x20 < uppercase c
unfolding uppercase
uppercase_above_space c l = by (ltb c 0x61) refl
  where
    by : (b : Bool) → ltb c 0x61 ≡ b → 0x20 < cond b c (c - 0x20)
    by true e = omega arith
    by false e = omega (arith, ltb-false c 0x61 e)

final_upper_digits : (b k n : ℕ) → 1 ≤ k → NoFinalSpace (upper_digits b k n)
unfolding upper_digits
final_upper_digits b zero n l = absurd (omega arith)
final_upper_digits b (suc k) n l = rw map-append (final_append (upper_digits b k (n / b)) (final_one _ (uppercase_above_space _ (digit_least (n % b)))))

final_decimal : (n : ℕ) → NoFinalSpace (decimal n)
unfolding decimal
final_decimal n = rw (upper_digits_ten (digit_count n) n) at (final_upper_digits 10 (digit_count n) n (digit_count_fewest n).0)

final_address : (bits a : ℕ) → ValidBits bits → NoFinalSpace (address bits a)
unfolding address
final_address bits a w = final_append (ascii "0x") (final_upper_digits 16 (bits / 4) a (least w))
  where
    least : ValidBits bits → 1 ≤ bits / 4
    least (inl e) = omega arith
    least (inr e) = omega arith

-- ---- the trailers

final_breakdown : (rows : List Row) → NoFinalSpace (breakdown_line rows)
unfolding breakdown_line
final_breakdown rows =
    final_join (text_decimal "// Breakdown - Classes: " _ ∷ text_decimal ", Objects: " _ ∷ text_decimal ", ObjectArrays: " _ ∷ text_decimal ", PrimitiveArrays: " _ ∷ [])
    (final_append (ascii ", PrimitiveArrays: ") (final_decimal _))

final_totals : (rows : List Row) → NoFinalSpace (totals_line rows)
unfolding totals_line
final_totals rows = final_join (text_decimal "// EOF:  Total 'Objects',Refs(null) : " _ ∷ text_decimal "," _ ∷ text_decimal "(" _ ∷ ascii ")" ∷ []) (final_one 0x29 (omega arith))

-- ---- the second line of a row

final_refs_text : (bits : ℕ) → ValidBits bits → (xs rest : List ℕ) → NoFinalSpace xs → NoFinalSpace (xs ++ refs_text bits rest)
unfolding refs_text
final_refs_text bits w xs [] n = rw append-nil n
final_refs_text bits w xs (a ∷ rest) n = final_append xs (final_append (ascii " ") (final_refs_text bits w (address bits a) rest (final_address bits a w)))

final_second : (bits : ℕ) (names refs : List ℕ) (rows : List Row) (r : Row) → ValidBits bits → NoFinalSpace (second_line bits names refs rows r)
unfolding second_line
final_second bits names refs rows r w = final_refs_text bits w _ (refs_of refs r) (final_address bits _ w)

-- ---- the first line of a row

-- The row and its name satisfy the checks of its kind, and the name has the length that the row gives.
record GoodName (names : List ℕ) (r : Row) : Type 0 where
  kind_good : GoodKind (without_place r) (name_of names r)
  long : length (name_of names r) ≡ r.namelen

final_array : (name : List ℕ) → NoFinalSpace name → NoFinalSpace (object_array_type name)
unfolding object_array_type
final_array name n = by (eqb (get_or name 0 0) 0x5B)
  where
    by : (b : Bool) → NoFinalSpace (cond b (ascii "[" ++ name) (ascii "[L" ++ (name ++ ascii ";")))
    by true = final_append (ascii "[") n
    by false = final_append (ascii "[L") (final_append name (final_one 0x3B (omega arith)))

final_primitive_array_type : (type : ℕ) → type < 8 → NoFinalSpace (primitive_array_type type)
unfolding primitive_array_type letters all_within
final_primitive_array_type type l = final_append (ascii "[") (final_one _ (within_at letters type refl l))

module _ (names : List ℕ) (rows : List Row) (all : All (GoodName names) rows) where
  class_name_no_space : (r : Row) → GoodName names r → r.kind ≡ 1 → NoFinalSpace (name_of names r)
  unfolding without_place
  class_name_no_space r n k = by n.kind_good
    where
      by : GoodKind (without_place r) (name_of names r) → NoFinalSpace (name_of names r)
      by (a_class _ _ _ _ _ least _ w) = final_within (name_of names r) w (omega (arith, n.long))
      by (an_object kind _ _ _ _) = absurd (omega arith)
      by (an_array kind _ _ _ _ _) = absurd (omega arith)
      by (a_primitive kind _ _ _ _ _ _) = absurd (omega arith)

  -- The name of the class of an object or object array whose class row is not missing does not end in a space.
  class_row_name_no_space : (r : Row) → (r.kind ≡ 2) ⊎ (r.kind ≡ 3) → (ClassMissing rows r → ⊥) → NoFinalSpace (name_of names (found_row rows (class_at rows r.class)))
  unfolding found_row
  class_row_name_no_space r k missing = by (class_at rows r.class) refl
    where
      by : (f : Option ℕ) → class_at rows r.class ≡ f → NoFinalSpace (name_of names (found_row rows f))
      by (Some i) e =
          let c = (class_at_first rows r.class i).0 e in
          class_name_no_space (nth rows i) (all_nth (GoodName names) rows i all c.inside) c.holds.kind
      by None e = absurd (missing (record { kind = k; none = (class_at_none rows r.class).0 e }))

  final_type : (r : Row) → GoodName names r → (ClassMissing rows r → ⊥) → NoFinalSpace (type_of names rows r)
  unfolding type_of naming_class without_place
  final_type r n missing = by n.kind_good
    where
      other : (k : ℕ) → (r.kind ≡ k → ⊥) → is_kind k r ≡ false
      other k = ne_eqb r.kind k

      by : GoodKind (without_place r) (name_of names r) → NoFinalSpace (type_of names rows r)
      by (a_class kind _ _ _ _ _ _ _) = rw (other 4 (λ e. omega arith), other 3 (λ e. omega arith), eq-eqb r.kind 1 kind) (class_name_no_space r n kind)
      by (an_object kind _ _ _ _) =
          rw (other 4 (λ e. omega arith), other 3 (λ e. omega arith), other 1 (λ e. omega arith)) (class_row_name_no_space r (inl kind) missing)
      by (an_array kind _ _ _ _ _) =
          rw (other 4 (λ e. omega arith), eq-eqb r.kind 3 kind, other 1 (λ e. omega arith)) (final_array _ (class_row_name_no_space r (inr kind) missing))
      by (a_primitive kind _ _ _ _ type _) = rw (eq-eqb r.kind 4 kind) (final_primitive_array_type r.prim type)

-- The first line ends in the type, so it does not end in a space if the type does not.
final_first : (bits : ℕ) (names : List ℕ) (rows : List Row) (r : Row) → NoFinalSpace (type_of names rows r) → NoFinalSpace (first_line bits names rows r)
unfolding first_line
final_first bits names rows r t =
    final_join (address bits r.address ∷ text_decimal " [" _ ∷ cond (is_kind 1 r) (ascii "] CLS ") (ascii "] OBJ ") ∷ type_of names rows r ∷ []) t

-- ---- all lines

-- Both conditions on the tables hold exactly if a size query returns 0 (`TextSizeReplies.done`), and so for every text written.
module _ (h : Header) (names refs : List ℕ) (rows : List Row) (a : TablesGood h names refs rows) (f : first_row (class_missing rows) rows ≡ None) where
  all_named : All (GoodName names) rows
  unfolding rec_of without_place
  all_named = each_row h names refs (GoodName names) named rows a.1
    where
      named : (index : ℕ) (r : Row) → good_row h names refs index r ≡ true → GoodName names r
      named index r g = let k = good_rec h names refs index r g in record { kind_good = k.kind_good; long = k.namelen }

  row_ends : (some : List Row) → ((i : ℕ) → i < length some → NoFinalSpace (type_of names rows (nth some i)))
      → Each (λ line. EndsInSpace line → ⊥) (row_lines h.bits names refs rows some ++ (breakdown_line rows ∷ totals_line rows ∷ []))
  unfolding row_lines last_byte
  row_ends [] t = ((final_breakdown rows).last 0, ((final_totals rows).last 0, tt))
  row_ends (r ∷ some) t = (
    (final_first h.bits names rows r (t 0 (omega arith))).last 0,
    ((final_second h.bits names refs rows r (header_bits_good h names rows refs a.0)).last 0, row_ends some (λ i l. t (suc i) (omega arith))),
  )

  -- No line after the version line ends in a space.
  pub no_space_after_version : Each (λ line. EndsInSpace line → ⊥) (row_lines h.bits names refs rows rows ++ (breakdown_line rows ∷ totals_line rows ∷ []))
  no_space_after_version = row_ends rows (λ i l. final_type names rows all_named (nth rows i) (all_nth (GoodName names) rows i all_named l) ((no_class_missing rows).0 f i l))

  -- If a line of the text ends in a space, it is line 0, the version line.
  pub space_in_first : (i : ℕ) → EndsInSpace (get_or (text_lines h names refs rows) i []) → i ≡ 0
  unfolding text_lines
  space_in_first zero e = refl
  space_in_first (suc i) e = absurd (each_at (row_lines h.bits names refs rows rows ++ (breakdown_line rows ∷ totals_line rows ∷ [])) i no_space_after_version e)
