-- What a method of an encoder promises: `Wrote before after bytes`. Consecutive calls compose. A reader must believe `Wrote`.
use Rattle.std.specs.Prelude.{◌≡◌, refl, List, [], ◌++◌, ℕ, ◌+◌, ◌≤◌, length}
use Rattle.std.proofs.Common.{◌∙◌, arith, length-append}
use Rattle.std.proofs.lemmas.List.Edits.{sets}
use Rattle.encode.specs.SetsLaws.{sets_append}
use Rattle.encode.specs.Writes.{HasCapacity}
use Rattle.encode.specs.declared.encoder.Encoder.{Encoder}

-- The encoder wrote `bytes` at its offset, changed nothing else in its output, and is now at the offset after them.
pub record Wrote (before after : Encoder) (bytes : List ℕ) : Type 0 where
  pub same : after.out.ghost_name ≡ before.out.ghost_name
  pub long : length after.out.now ≡ length before.out.now
  pub place : after.at ≡ before.at + length bytes
  pub out : after.out.now ≡ sets before.out.now before.at bytes

-- The encoder's output has capacity for bytes at its offset.
abbrev pub HasRoom : Encoder → List ℕ → Type 0
HasRoom e bytes = HasCapacity e.out.now e.at bytes

-- If there is capacity for both byte strings, there is capacity for the first.
pub room_first : (e : Encoder) (xs ys : List ℕ) → HasRoom e (xs ++ ys) → HasRoom e xs
room_first e xs ys r = omega (arith, rw length-append at r)

-- Two consecutive writes are one write of both byte strings.
pub wrote_then : {first second third : Encoder} {xs ys : List ℕ} → Wrote first second xs → Wrote second third ys → Wrote first third (xs ++ ys)
wrote_then {first} {second} {third} {xs} {ys} p q =
    let a = p.place in
    let b = q.place in
    record {
      same = q.same ∙ p.same;
      long = q.long ∙ p.long;
      place = simp length-append (omega arith);
      out = cc (p.out, p.place, q.out, sets_append first.out.now first.at xs ys);
    }

-- The encoder is writing `all`, from a state `first` on; `rest` is still to be written.
pub record Remains (first now : Encoder) (all rest : List ℕ) : Type 0 where
  pub same : now.out.ghost_name ≡ first.out.ghost_name
  pub long : length now.out.now ≡ length first.out.now
  pub place : now.at + length rest ≡ first.at + length all
  pub out : sets now.out.now now.at rest ≡ sets first.out.now first.at all

-- At the start everything remains.
pub remains_start : (e : Encoder) (all : List ℕ) → Remains e e all all
remains_start e all = record { same = refl; long = refl; place = refl; out = refl }

module _ {first now : Encoder} {all : List ℕ} where
  -- After a write of the first part of the rest, the other part remains.
  pub remains_next : {next : Encoder} {xs : List ℕ} (ys : List ℕ) → Remains first now all (xs ++ ys) → Wrote now next xs → Remains first next all ys
  remains_next {next} {xs} ys r w =
      let p = w.place in
      let q = rw length-append at r.place in
      record {
        same = w.same ∙ r.same;
        long = w.long ∙ r.long;
        place = omega arith;
        out = cc (w.out, w.place, r.out, sets_append now.out.now now.at xs ys);
      }

  -- There is capacity for the rest if there was for everything.
  pub remains_room : {rest : List ℕ} → Remains first now all rest → HasRoom first all → HasRoom now rest
  remains_room r m =
      let p = r.place in
      let q = r.long in
      omega arith

  -- If nothing remains, everything was written.
  pub remains_done : Remains first now all [] → Wrote first now all
  remains_done r = let p = r.place in record { same = r.same; long = r.long; place = omega arith; out = r.out }

-- The laws by which the check itself proves that consecutive calls write one byte string after another.
pub ruleset consecutive = (sets_append, length-append)
