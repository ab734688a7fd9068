-- The references of a record that was read, as they are stored: their values, one at a time.
-- Assumes nothing.
use Rattle.std.specs.Prelude.{◌≡◌, refl, ℕ, ◌-◌, ◌<◌, List, [], ◌∷◌}
use Rattle.decode.specs.Layout.{Outcome, whole, stops, run}
use Rattle.decode.specs.Fields.{ref_field}
use Rattle.decode.specs.declared.Stop.{Stop}
use Rattle.phd.specs.Phd.{ref_list}
use Rattle.phd.specs.RefList.{prepend, ref_list_next}

-- ---- references that were read

-- All references are present and valid.
abbrev pub RefsAllRead : Outcome (List ℕ) → Type 0
RefsAllRead (whole rs n) = Unit {0}
RefsAllRead (stops w) = ⊥

-- The values of the references; none if one of them stops.
abbrev pub values_of : Outcome (List ℕ) → List ℕ
values_of (whole rs n) = rs
values_of (stops w) = []

prepend_values : (a : ℕ) (o : Outcome (List ℕ)) → RefsAllRead (prepend a o) → RefsAllRead o × (values_of (prepend a o) ≡ a ∷ values_of o)
prepend_values a (whole rs n) w = (tt, refl)
prepend_values a (stops x) w = absurd w

module _ (w base top : ℕ) (s : List ℕ) (at n : ℕ) (h : 0 < n) (good : RefsAllRead (run (ref_list w base top n) s at)) where
  -- If the first reference is a and ends at `next`, the others are all read from there, and a is the first value.
  pub values_next : (a next : ℕ) → run (ref_field w base top) s at ≡ whole a next
      → RefsAllRead (run (ref_list w base top (n - 1)) s next)
      × (values_of (run (ref_list w base top n) s at) ≡ a ∷ values_of (run (ref_list w base top (n - 1)) s next))
  values_next a next e =
      let g : RefsAllRead (prepend a (run (ref_list w base top (n - 1)) s next)) = rw (ref_list_next w base top s n at h, e) at good in
      let f = prepend_values a (run (ref_list w base top (n - 1)) s next) g in
      (f.0, rw (ref_list_next w base top s n at h, e) f.1)

  -- The first reference does not stop.
  pub no_ref_stops : (x : Stop) → run (ref_field w base top) s at ≡ stops x → ⊥
  no_ref_stops x e = rw (ref_list_next w base top s n at h, e) at good
