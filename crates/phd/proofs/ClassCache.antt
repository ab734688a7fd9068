-- After any pushes each slot of the class cache holds the class word of docs/FORMAT.md 3.5, although `pushes` stays at most 7.
-- A reader must believe `push_all`, and `Phd.slot_after`.
use Rattle.std.specs.Prelude.{◌≡◌, refl, ℕ, ◌+◌, ◌%◌, ◌≤◌, ◌<◌, List, [], ◌∷◌, length, Some}
use Rattle.std.proofs.Common.{sym, ◌∙◌, lt-ltb, le-ltb, eq-eqb, ne_eqb}
use Rattle.std.proofs.Math.Decide.{dec_lt, ℕ_discrete}
use native.Mathlib.Omega.{arith}
use Rattle.std.proofs.Math.ListN.{length-set}
use Rattle.std.proofs.Math.Seq.{get_or-set_same, get_or-set_other}
use Rattle.std.proofs.Math.Dec.{ltb}
use Rattle.phd.specs.Phd.{slot_after, empty_cache, push, slot}
use Rattle.phd.specs.declared.cache.Cache.{Cache}
use Rattle.phd.specs.ClassCache.{push_all}

-- The invariant of a cache after pushing ws: `pushes` is their number up to 3, then 4 to 7 and equal to their number modulo 4.
record CacheInvariant (ws : List ℕ) (c : Cache) : Type 0 where
  pub few : length ws < 4 → c.pushes ≡ length ws
  pub many : 4 ≤ length ws → 4 ≤ c.pushes
  pub most : c.pushes ≤ 7
  pub equal_mod_4 : c.pushes % 4 ≡ length ws % 4
  pub four_slots : length c.classes ≡ 4
  pub slots : (i : ℕ) → i < 4 → slot c i ≡ slot_after ws i

-- `pushes` wraps from 7 to 4.
pushes_wrap : (c : Cache) (w : ℕ) → c.pushes ≤ 7
    → ((push c w).pushes % 4 ≡ (c.pushes + 1) % 4) × ((push c w).pushes ≤ 7) × (c.pushes < 4 → (push c w).pushes ≡ c.pushes + 1) × (4 ≤ c.pushes → 4 ≤ (push c w).pushes)
unfolding push
pushes_wrap c w l = elim (dec_lt c.pushes 7) [
  | yes k ↦ rw (lt-ltb c.pushes 7 k) (refl, omega arith, λ _. refl, λ m. omega arith)
  | no k ↦ rw (le-ltb c.pushes 7 (omega arith)) (omega arith, omega arith, λ m. absurd (omega arith), λ _. omega arith)
]

module _ (ws : List ℕ) (c : Cache) (w : ℕ) (t : CacheInvariant ws c) where
  abbrev p : ℕ
  p = c.pushes

  abbrev q : ℕ
  q = (push c w).pushes

  -- The slot that is filled holds the new class word; every other slot is unchanged.
  pushed_slot : (i : ℕ) → i < 4 → length ws % 4 ≡ i → slot (push c w) i ≡ Some w
  unfolding slot push
  pushed_slot i l e =
      let n = pushes_wrap c w t.most in
      let k : i < q = elim (dec_lt (length ws) 4) [
        | yes m ↦ omega (arith, t.few m, n.2 (omega (arith, t.few m)))
        | no m ↦ omega (arith, n.3 (t.many (omega arith)))
      ] in
      let s : p % 4 ≡ i = t.equal_mod_4 ∙ e in
      rw (lt-ltb i q k, s, get_or-set_same c.classes i w 0 (omega (arith, t.four_slots)))

  other_slot : (i : ℕ) → i < 4 → (length ws % 4 ≡ i → ⊥) → slot (push c w) i ≡ slot c i
  unfolding slot push
  other_slot i l e =
      let n = pushes_wrap c w t.most in
      let d : i ≡ p % 4 → ⊥ = λ z. e (sym (z ∙ t.equal_mod_4)) in
      let f : ltb i q ≡ ltb i p = elim (dec_lt i p) [
        | yes m ↦ rw (lt-ltb i p m) (lt-ltb i q (elim (dec_lt p 4) [ yes k ↦ omega (arith, n.2 k) | no k ↦ omega (arith, n.3 (omega arith)) ]))
        | no m ↦
            let k : p < 4 = omega arith in
            let z : p < i = omega (arith, d) in
            rw (le-ltb i p (omega arith)) (le-ltb i q (omega (arith, n.2 k)))
      ] in
      rw (f, get_or-set_other c.classes (p % 4) i w 0 d)

  push_invariant : CacheInvariant (w ∷ ws) (push c w)
  unfolding push slot_after
  push_invariant =
      let n = pushes_wrap c w t.most in
      record {
        few = λ l. omega (arith, t.few (omega arith), n.2 (omega (arith, t.few (omega arith))));
        many = λ l. elim (dec_lt (length ws) 4) [ yes m ↦ omega (arith, t.few m, n.2 (omega (arith, t.few m))) | no m ↦ n.3 (t.many (omega arith)) ];
        most = n.1;
        equal_mod_4 = omega (arith, n.0, t.equal_mod_4);
        four_slots = length-set c.classes (p % 4) w ∙ t.four_slots;
        slots = λ i l. elim (ℕ_discrete (length ws % 4) i) [
          | yes e ↦ rw (eq-eqb _ _ e) (pushed_slot i l e)
          | no e ↦ rw (ne_eqb _ _ e) (other_slot i l e ∙ t.slots i l)
        ];
      }

-- The invariant holds after any pushes.
push_all_invariant : (ws : List ℕ) → CacheInvariant ws (push_all ws)
unfolding empty_cache slot slot_after
push_all_invariant [] = record {
  few = λ _. refl;
  many = λ l. absurd (omega arith);
  most = omega arith;
  equal_mod_4 = refl;
  four_slots = refl;
  slots = λ i l. rw (le-ltb i 0 (omega arith));
}
push_all_invariant (w ∷ ws) = push_invariant ws (push_all ws) w (push_all_invariant ws)

-- Each slot of the cache holds what `slot_after` gives.
pub slot_push_all : (ws : List ℕ) (i : ℕ) → i < 4 → slot (push_all ws) i ≡ slot_after ws i
slot_push_all ws = (push_all_invariant ws).slots
