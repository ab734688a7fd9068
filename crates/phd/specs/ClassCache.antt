-- The class cache after any pushes. A reader must believe `push_all`.
use Rattle.std.specs.Prelude.{ℕ, List, [], ◌∷◌}
use Rattle.phd.specs.Phd.{empty_cache, push}
use Rattle.phd.specs.declared.cache.Cache.{Cache}

-- The cache after pushing the class words ws, the last one first.
abbrev pub push_all : List ℕ → Cache
push_all [] = empty_cache
push_all (w ∷ ws) = push (push_all ws) w
