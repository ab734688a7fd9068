-- The layout of a record after its front part, and the shape of an object array. Assumes nothing.
use Rattle.std.specs.Prelude.{◌≡◌, ℕ}
use Rattle.decode.specs.Layout.{Layout, ◌>>=◌}
use Rattle.phd.specs.Phd.{Item, hash_bytes, middle, class_name, from_ref_count}
use Rattle.phd.specs.declared.Origin.{Origin}
use Rattle.phd.specs.declared.Shape.{Shape}
use Rattle.phd.specs.declared.Front.{Front}
use Rattle.phd.specs.declared.cache.Cache.{Cache}

-- The shape of an object array: the fields that it lacks, and the bytes of its reference count, size and true length.
pub record ArrayShape (sh : Shape) : Type 0 where
  pub inst : sh.inst ≡ 0
  pub superclass : sh.superclass ≡ 0
  pub name : sh.name ≡ 0
  pub countwidth : sh.countwidth ≡ 4
  pub size : sh.size ≡ 4
  pub truelen : sh.truelen ≡ 4

-- The fields of a record after its front part v, as in `Phd.fields`, for forms that use no slot (`known` is 0).
unfoldable pub after_front : ℕ → Cache → Origin → ℕ → Shape → Front → Layout Item
after_front top c origin hk sh v = do
  m ← middle sh (hash_bytes hk)
  name ← class_name sh.name
  from_ref_count top c origin 0 hk sh v m name
