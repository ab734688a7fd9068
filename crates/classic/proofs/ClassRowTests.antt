-- The tests of a row that the functions compute are `is_class_at` and `is_class_named`.
-- Assumes nothing.
use Rattle.std.specs.Prelude.{◌≡◌, refl, ℕ, suc, zero, ◌+◌, not, ◌<◌, ◌⊎◌, Bool, true, false, cond, ◌&&◌, ◌==◌, List, [], ◌∷◌, eqb, ltb, length, get_or, set, position, Option, Some, None}
use Rattle.std.specs.List.{position_or_len}
use Rattle.std.proofs.Common.{sym, ◌∙◌, arith, eqb-true, eq-eqb, ne_eqb, ltb-true, length-set, get_or-set_same, get_or-set_other}
use Rattle.std.proofs.lemmas.Bool.{eqb-false, ltb-false}
use Rattle.std.proofs.lemmas.Bool.Decides.{nat_tests}
use Rattle.phd.specs.Phd.{bytes_equal}
use Rattle.phd.specs.ByteTests.{bytes_equal_iff}
use Rattle.table.specs.declared.Row.{Row}
use Rattle.classic.specs.ClassicText.{letters, primitive_array_type, is_class_named}
use Rattle.classic.specs.PrimitiveClasses.{NamesPrim, is_type, Entered}
use Rattle.table.specs.Rows.{name_of}
use Rattle.table.specs.RowBytes.{is_class_at}

-- A row of kind 1 with the address is a class row with it, and another row is not.
pub class_row : (a : ℕ) (r : Row) → r.kind ≡ 1 → r.address ≡ a → is_class_at a r ≡ true
unfolding is_class_at
class_row a r k e = rw (eq-eqb _ _ k, eq-eqb _ _ e)

pub no_class_row : (a : ℕ) (r : Row) → ((r.kind ≡ 1) × (r.address ≡ a → ⊥)) ⊎ (r.kind ≡ 1 → ⊥) → is_class_at a r ≡ false
unfolding is_class_at
no_class_row a r e = grind (arith, nat_tests)

-- ---- the type with a name

eight : length letters ≡ 8
unfolding letters
eight = refl

-- The letter of a type is at the place of the type.
letter_at : (type : ℕ) → type < 8 → position_or_len (λ l. l == get_or letters type 0) letters ≡ type
unfolding letters
letter_at zero l = refl
letter_at (suc zero) l = refl
letter_at (suc (suc zero)) l = refl
letter_at (suc (suc (suc zero))) l = refl
letter_at (suc (suc (suc (suc zero)))) l = refl
letter_at (suc (suc (suc (suc (suc zero))))) l = refl
letter_at (suc (suc (suc (suc (suc (suc zero)))))) l = refl
letter_at (suc (suc (suc (suc (suc (suc (suc zero))))))) l = refl
letter_at (suc (suc (suc (suc (suc (suc (suc (suc n)))))))) l = absurd (omega arith)

with_true : (b : Bool) → b && true ≡ b
with_true true = refl
with_true false = refl

none_not_some : (type : ℕ) → None ≡ Some type → ⊥
none_not_some type e = let z : ◌≡◌ {A = ℕ} 0 1 = cc in omega arith

module _ (letter : ℕ) where
  -- The place of the letter in a list.
  abbrev place : List ℕ → ℕ
  place xs = position_or_len (λ l. l == letter) xs

  -- The list has it there.
  at_place : (xs : List ℕ) → place xs < length xs → get_or xs (place xs) 0 ≡ letter
  at_place [] h = absurd (omega arith)
  at_place (x ∷ xs) h = by (eqb x letter) refl h (at_place xs)
    where
      by : (b : Bool) → eqb x letter ≡ b → cond (not b) (1 + place xs) 0 < suc (length xs) → (place xs < length xs → get_or xs (place xs) 0 ≡ letter)
          → get_or (x ∷ xs) (cond (not b) (1 + place xs) 0) 0 ≡ letter
      by true e h r = eqb-true _ _ e
      by false e h r = let add : 1 + place xs ≡ suc (place xs) = omega arith in rw add (r (omega arith))

  -- Its place among the letters is a type exactly if it is the letter of the type.
  letter_of_type : (type : ℕ) → type < 8 → eqb letter (get_or letters type 0) ≡ eqb (place letters) type
  letter_of_type type l = by (eqb letter (get_or letters type 0)) (eqb (place letters) type) refl refl
    where
      by : (b c : Bool) → eqb letter (get_or letters type 0) ≡ b → eqb (place letters) type ≡ c → b ≡ c
      by true true e f = refl
      by false false e f = refl
      by true false e f = absurd (eqb-false _ _ f (rw (eqb-true _ _ e) (letter_at type l)))
      by false true e f =
          let at : place letters ≡ type = eqb-true _ _ f in
          absurd (eqb-false _ _ e (sym (rw at at (at_place letters (omega (arith, eight))))))

  -- The search for the letter of a name of two bytes finds the type with the name.
  pub prim_of_letter : (found : Option ℕ) → found ≡ position (λ l. l == letter) letters → NamesPrim (0x5B ∷ letter ∷ []) found
  unfolding bytes_equal primitive_array_type
  prim_of_letter found e = rw e (by (ltb (place letters) (length letters)) refl)
    where
      by : (b : Bool) → ltb (place letters) (length letters) ≡ b → NamesPrim (0x5B ∷ letter ∷ []) (cond b (Some (place letters)) None)
      by true t = record {
        bound = λ type q. let p : place letters ≡ type = cc in let m = ltb-true _ _ t in omega (arith, eight);
        each = λ type l. with_true _ ∙ letter_of_type type l;
      }
      by false t = record {
        bound = λ type q. absurd (none_not_some type q);
        each = λ type l. with_true _ ∙ (letter_of_type type l ∙ eqb_none type l);
      }
        where
          eqb_none : (type : ℕ) → type < 8 → eqb (place letters) type ≡ false
          eqb_none type l = let m = ltb-false _ _ t in ne_eqb _ _ (λ q. omega (arith, eight, q))

-- A name of two bytes, and the type with it.
two_bytes : (name : List ℕ) → length name ≡ 2 → name ≡ get_or name 0 0 ∷ get_or name 1 0 ∷ []
two_bytes [] l = absurd (omega arith)
two_bytes (a ∷ []) l = absurd (omega arith)
two_bytes (a ∷ b ∷ []) l = refl
two_bytes (a ∷ b ∷ c ∷ rest) l = absurd (omega arith)

pub prim_named : (name : List ℕ) (found : Option ℕ) → length name ≡ 2 → get_or name 0 0 ≡ 0x5B → found ≡ position (λ l. l == get_or name 1 0) letters → NamesPrim name found
prim_named name found l e p = rw (two_bytes name l, e) (prim_of_letter (get_or name 1 0) found p)

-- No other name is that of a type.
pub no_prim_name : (name : List ℕ) → (length name ≡ 2 → get_or name 0 0 ≡ 0x5B → ⊥) → NamesPrim name None
unfolding primitive_array_type
no_prim_name name n = record { bound = λ type q. absurd (none_not_some type q); each = λ type l. by type (bytes_equal name (primitive_array_type type)) refl }
  where
    by : (type : ℕ) (b : Bool) → bytes_equal name (primitive_array_type type) ≡ b → b ≡ false
    by type true e = let q = (bytes_equal_iff _ _).0 e in absurd (rw q at n refl refl)
    by type false e = refl

-- ---- entering a row

module _ (names : List ℕ) (r : Row) (classes : List ℕ) (l : length classes ≡ 8) where
  -- A class row, by the type that its name is.
  module _ (k : r.kind ≡ 1) (found : Option ℕ) (n : NamesPrim (name_of names r) found) where
    named_type : (type : ℕ) → type < 8 → is_class_named names (primitive_array_type type) r ≡ is_type type found
    unfolding is_class_named
    named_type type m = rw (eq-eqb _ _ k, n.each type m)

    pub entered : (type : ℕ) → found ≡ Some type → Entered names r classes (set classes type r.address)
    entered type e = record { eight = simp length-set l; each = λ type' m. rw (named_type type' m, e) (by type' (eqb type type') refl) }
      where
        by : (type' : ℕ) (b : Bool) → eqb type type' ≡ b → get_or (set classes type r.address) type' 0 ≡ cond b r.address (get_or classes type' 0)
        by type' true q = rw (← eqb-true _ _ q) (get_or-set_same classes type r.address 0 (let m = n.bound type e in omega arith))
        by type' false q = get_or-set_other classes type type' r.address 0 (λ z. eqb-false _ _ q (sym z))

    pub not_entered : found ≡ None → Entered names r classes classes
    not_entered e = record { eight = l; each = λ type m. rw (named_type type m, e) }

  -- Another row.
  pub no_class_entered : (r.kind ≡ 1 → ⊥) → Entered names r classes classes
  unfolding is_class_named
  no_class_entered n = record { eight = l; each = λ type m. rw (ne_eqb _ _ n) }
