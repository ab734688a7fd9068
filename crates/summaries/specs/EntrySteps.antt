-- Keys as the code has them, and what its methods make of an entry, in numbers of 64 bits.
-- Assumes nothing. A reader need not believe it: no definition of a result uses it.
use Rattle.std.specs.Prelude.{◌≡◌, refl, ℕ, ◌+◌, ◌*◌, ◌%◌, ◌^◌, Bool, true, false, ◌&&◌, cond, nat_lt, Option, Some, None}
use Rattle.std.proofs.Common.{sym, ap, arith, ne_eqb}
use Rattle.table.specs.Rows.{is_kind}
use Rattle.table.specs.declared.Row.{Row}
use Rattle.summaries.specs.declared.Summary.{Summary}
use Rattle.summaries.specs.declared.Key.{Key}
use Rattle.summaries.specs.declared.Key.TheVariants.{Class, Primitive}
use Rattle.summaries.specs.Summaries.{Key as DefinedKey, same_key, key_of}

-- A key of the code as one of the definition.
abbrev pub numbers : Key → DefinedKey
numbers (Class class) = record { mark = 0; class = class }
numbers (Primitive prim) = record { mark = 1; class = prim }

-- The key of a row, if it is not a class row.
abbrev pub key_of_row : Row → Option Key
key_of_row r = cond (is_kind 1 r) None (cond (is_kind 4 r) (Some (Primitive r.prim)) (Some (Class r.class)))

-- An entry with one more instance, which adds so many bytes, references and objects that wait.
abbrev pub with_amounts : Summary → (bytes refs waiting : ℕ) → Summary
with_amounts s bytes refs waiting = record {
  class = s.class;
  mark = s.mark;
  instances = (s.instances + 1) % 2 ^ 64;
  bytes = (s.bytes + bytes) % 2 ^ 64;
  refs = (s.refs + refs) % 2 ^ 64;
  waiting = (s.waiting + waiting) % 2 ^ 64;
}

-- An entry with one more row.
abbrev pub with_row : Summary → Row → Summary
with_row s r = record {
  class = s.class;
  mark = s.mark;
  instances = (s.instances + 1) % 2 ^ 64;
  bytes = (s.bytes + cond (is_kind 2 r) 0 (4 * r.size)) % 2 ^ 64;
  refs = (s.refs + r.count) % 2 ^ 64;
  waiting = (s.waiting + cond (is_kind 2 r) 1 0) % 2 ^ 64;
}

-- The product of two numbers below 2^32; 0 if one is not.
abbrev pub product : ℕ → ℕ → ℕ
product n size = cond (nat_lt n 0x1_0000_0000 && nat_lt size 0x1_0000_0000) (n * size) 0

-- An entry whose waiting objects have so many bytes each.
abbrev pub with_sizes : Summary → ℕ → Summary
with_sizes s size = record {
  class = s.class;
  mark = s.mark;
  instances = s.instances;
  bytes = (s.bytes + product s.waiting size) % 2 ^ 64;
  refs = s.refs;
  waiting = 0;
}

-- ---- keys

-- Two keys that differ have other numbers.
pub numbers_differ : (j k : Key) → (j ≡ k → ⊥) → same_key (numbers j) (numbers k) ≡ false
unfolding same_key
numbers_differ (Class a) (Class b) n = ne_eqb a b (λ e. n (ap (λ (c : ℕ). Class c) e))
numbers_differ (Class a) (Primitive b) n = refl
numbers_differ (Primitive a) (Class b) n = refl
numbers_differ (Primitive a) (Primitive b) n = ne_eqb a b (λ e. n (ap (λ (c : ℕ). Primitive c) e))

-- A row without a key is a class row.
pub no_key : (r : Row) → key_of_row r ≡ None → is_kind 1 r ≡ true
no_key r e = by (is_kind 1 r) (is_kind 4 r) e
  where
    by : (x y : Bool) → cond x None (cond y (Some (Primitive r.prim)) (Some (Class r.class))) ≡ None → x ≡ true
    by true y e = refl
    by false true e = absurd (let z : ◌≡◌ {A = ℕ} 0 1 = cc in omega arith)
    by false false e = absurd (let z : ◌≡◌ {A = ℕ} 0 1 = cc in omega arith)

-- Any other row has its key.
pub some_key : (r : Row) (j : Key) → key_of_row r ≡ Some j → (is_kind 1 r ≡ false) × (numbers j ≡ key_of r)
unfolding key_of
some_key r j e = by (is_kind 1 r) (is_kind 4 r) e
  where
    by : (x y : Bool) → cond x None (cond y (Some (Primitive r.prim)) (Some (Class r.class))) ≡ Some j
        → (x ≡ false) × (numbers j ≡ cond y (record { mark = 1; class = r.prim }) (record { mark = 0; class = r.class }))
    by true y e = absurd (let z : ◌≡◌ {A = ℕ} 0 1 = cc in omega arith)
    by false true e = let q : Primitive r.prim ≡ j = cc in (refl, ap numbers (sym q))
    by false false e = let q : Class r.class ≡ j = cc in (refl, ap numbers (sym q))
