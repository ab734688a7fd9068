-- Which header and which rows may be written (docs/FORMAT.md 6.1). The classic text has the same conditions.
-- A reader must believe these tests.
use Rattle.std.specs.Prelude.{◌≡◌, ℕ, suc, ◌+◌, ◌%◌, ◌^◌, Bool, true, false, not, cond, ◌&&◌, ◌||◌, List, [], ◌∷◌, length, take, drop, leb, ltb, eqb, Option, Some, None}
use Rattle.decode.specs.Numbers.{all_within}
use Rattle.decode.specs.declared.StringSpan.{StringSpan}
use Rattle.phd.specs.Phd.{max_address, hash_bytes}
use Rattle.phd.specs.declared.Header.{Header}
use Rattle.table.specs.Rows.{refs_of, name_of}
use Rattle.table.specs.declared.Row.{Row}

-- Every test in the list holds.
unfoldable pub all_true : List Bool → Bool
all_true [] = true
all_true (b ∷ bs) = b && all_true bs

-- ---- header

-- The bytes of the VM string: a slice of the dump, or of the name bytes passed in.
abbrev pub vm_text : List ℕ → StringSpan → List ℕ
vm_text names t = take t.len (drop t.place names)

-- A VM string is good if it has at most 65,535 bytes, lies within the name bytes, and all its bytes are 0x20 to 0x7E; an absent
-- one is good.
unfoldable pub good_vm : List ℕ → StringSpan → Bool
good_vm names t = not t.present || all_true (
    ltb t.len 65536
    ∷ leb (t.place + t.len) (length names)
    ∷ all_within 0x20 0x7E (vm_text names t) ∷ [])

-- A header is good if W is 32 or 64, the VM string is good, and there are at most 2^30 rows and 2^30 reference numbers.
unfoldable pub good_header : Header → (names : List ℕ) → List Row → (refs : List ℕ) → Bool
good_header h names rows refs = all_true (
    (eqb h.bits 32 || eqb h.bits 64)
    ∷ leb (length rows) (2 ^ 30)
    ∷ leb (length refs) (2 ^ 30)
    ∷ good_vm names h.vm ∷ [])

-- ---- rows

-- The hash kind is 3 in all-hashed dumps, else 0, 1 or 2; the hash is 0 for kinds 0 and 1, below 2^32 for 2, below 2^16 for 3.
unfoldable pub good_hash : Bool → Row → Bool
good_hash hashed r = cond hashed (eqb r.hashkind 3) (ltb r.hashkind 3) && ltb r.hash (256 ^ hash_bytes r.hashkind)

-- The conditions specific to classes, with `available` name bytes. In each kind, a number that it does not use is 0.
unfoldable pub good_class : ℕ → Row → Bool
good_class available r = all_true (
    not (eqb r.hashkind 1) ∷ ltb r.size (2 ^ 31) ∷ eqb r.len 0
    ∷ leb 1 r.namelen ∷ ltb r.namelen 65536 ∷ leb (r.place + r.namelen) available ∷ eqb r.prim 0 ∷ [])

-- The row has no name: place and length are 0. Required of every kind but classes.
unfoldable pub no_name : Row → Bool
no_name r = eqb r.place 0 && eqb r.namelen 0

-- The conditions specific to objects.
unfoldable pub good_object : Row → Bool
good_object r = all_true (eqb r.size 0 ∷ eqb r.len 0 ∷ no_name r ∷ eqb r.prim 0 ∷ [])

-- The conditions specific to object arrays: the length, which is the true length, is at least the reference count.
unfoldable pub good_array : Row → Bool
good_array r = all_true (ltb r.size (2 ^ 32) ∷ ltb r.len (2 ^ 31) ∷ leb r.count r.len ∷ no_name r ∷ eqb r.prim 0 ∷ [])

-- The conditions specific to primitive arrays.
unfoldable pub good_primitive : Row → Bool
good_primitive r = all_true (
    eqb r.class 0 ∷ eqb r.count 0 ∷ ltb r.size (2 ^ 32) ∷ ltb r.len (2 ^ 31) ∷ no_name r ∷ ltb r.prim 8 ∷ [])

-- The kind is 1 to 4, and the conditions specific to it hold.
unfoldable pub good_kind : ℕ → Row → Bool
good_kind available r =
    cond (eqb r.kind 1) (good_class available r)
    (cond (eqb r.kind 2) (good_object r)
    (cond (eqb r.kind 3) (good_array r)
    (cond (eqb r.kind 4) (good_primitive r) false)))

-- The address and the class word are at most `top`, and the address is a multiple of 4.
unfoldable pub good_addresses : ℕ → Row → Bool
good_addresses top r = all_true (eqb (r.address % 4) 0 ∷ leb r.address top ∷ leb r.class top ∷ [])

-- The references begin at `index`, where those of the rows before end, and lie within a table of `available` numbers.
unfoldable pub good_span : ℕ → ℕ → Row → Bool
good_span index available r = all_true (eqb r.first index ∷ leb (r.first + r.count) available ∷ ltb r.count (2 ^ 31) ∷ [])

-- All numbers of a row are good, with `refs` reference numbers and `names` name bytes.
unfoldable pub good_numbers : Header → ℕ → ℕ → ℕ → Row → Bool
good_numbers h index refs names r = all_true (
    good_addresses (max_address h.bits) r ∷ good_span index refs r ∷ good_hash h.hashed r ∷ good_kind names r ∷ [])

-- A reference is good if it is a multiple of 4 in 1 to `top`.
unfoldable pub good_ref : ℕ → ℕ → Bool
good_ref top a = all_true (eqb (a % 4) 0 ∷ leb 1 a ∷ leb a top ∷ [])

-- Every reference is good.
unfoldable pub good_refs : ℕ → List ℕ → Bool
good_refs top [] = true
good_refs top (a ∷ rest) = good_ref top a && good_refs top rest

-- A row is good if its numbers and references are, and all bytes of its name are 0x21 to 0x7E.
unfoldable pub good_row : Header → List ℕ → List ℕ → ℕ → Row → Bool
good_row h names refs index r = all_true (
    good_numbers h index (length refs) (length names) r
    ∷ good_refs (max_address h.bits) (refs_of refs r)
    ∷ all_within 0x21 0x7E (name_of names r) ∷ [])

-- The index of the first bad row, if there is one; the first row has index i, and its references begin at `index`.
unfoldable pub first_bad_from : Header → (names refs : List ℕ) → ℕ → ℕ → List Row → Option ℕ
first_bad_from h names refs i index [] = None
first_bad_from h names refs i index (r ∷ rows) =
    cond (good_row h names refs index r) (first_bad_from h names refs (suc i) (index + r.count) rows) (Some i)

-- The index of the first bad row of a table, if there is one.
abbrev pub first_bad : Header → (names refs : List ℕ) → List Row → Option ℕ
first_bad h names refs rows = first_bad_from h names refs 0 0 rows

-- The header is good and no row is bad.
abbrev pub TablesGood : Header → (names refs : List ℕ) → List Row → Type 0
TablesGood h names refs rows = (good_header h names rows refs ≡ true) × (first_bad h names refs rows ≡ None)
