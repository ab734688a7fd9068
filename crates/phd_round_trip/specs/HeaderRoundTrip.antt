-- A written header is read back as it was passed in, with its VM string at offset 32 of the dump.
-- Assumes nothing.
use Rattle.std.specs.Prelude.{◌≡◌, refl, ℕ, ◌+◌, ◌^◌, ◌<◌, Bool, true, false, cond, List, [], ◌∷◌, ◌++◌, length, eqb}
use Rattle.std.proofs.Common.{⊎_elim, append-nil, append_assoc, length-append, take_at, drop_at, lit<, arith, eq-eqb, lt-ltb}
use Rattle.decode.specs.Numbers.{all_within}
use Rattle.decode.specs.Layout.{Layout, field, raw, ◌>>◌}
use Rattle.decode.specs.Fields.{exactly, below, string, no_string}
use Rattle.decode.specs.declared.StringSpan.{StringSpan}
use Rattle.encode.specs.Encode.{join, be}
use Rattle.encode.specs.NumberRoundTrip.{length_be}
use Rattle.encode.specs.Reads.{Reads, reads_then, reads_end, reads_skip, reads_yield, reads_field, reads_raw, reads_check}
use Rattle.encode.specs.FieldRoundTrip.{reads_string}
use Rattle.phd.specs.Phd.{bit, bytes_equal, magic, magic_bytes, preamble, after_vm, header_records, make_header, header}
use Rattle.phd.specs.Shapes.{ValidBits}
use Rattle.phd.specs.declared.Header.{Header}
use Rattle.phd_check.specs.GoodRows.{good_vm, vm_text}
use Rattle.phd_write.specs.Write.{flag_value, header_flags, encode_preamble, encode_vm, encode_header}
use Rattle.phd_check.specs.WellFormed.{VmInBounds, vm_in_bounds, length_vm_text}
use Rattle.phd_write.specs.HeaderBytes.{length_preamble, header_parts}

-- The VM string of a written header, as it is read: its bytes begin at offset 32.
unfoldable pub written_vm : StringSpan → StringSpan
written_vm t = cond t.present (record { present = true; place = 32; len = t.len }) no_string

-- A written header, as it is read: the header passed in, with the VM string at its place in the dump.
abbrev pub written_header : Header → Header
written_header h = record { bits = h.bits; hashed = h.hashed; openj9 = h.openj9; vm = written_vm h.vm }

-- ---- fields with a fixed value or an upper bound

reads_exactly : (p n v reply : ℕ) → v < 256 ^ n → Reads p (exactly n v reply) (be n v) v
unfolding exactly
reads_exactly p n v reply h =
    reads_end p (field n) _ (be n v) v v (reads_field p n v h)
    (reads_skip _ _ _ _ tt v (reads_check _ reply _ (eq-eqb v v refl)) (reads_yield _ v))

reads_below : (p n top reply v : ℕ) → v < 256 ^ n → v < top → Reads p (below n top reply) (be n v) v
unfolding below
reads_below p n top reply v h l =
    reads_end p (field n) _ (be n v) v v (reads_field p n v h)
    (reads_skip _ _ _ _ tt v (reads_check _ reply _ (lt-ltb v top l)) (reads_yield _ v))

-- A field with a fixed value, and the layout after it.
then_exactly : {B : Type 0} (p n v reply : ℕ) (l : Layout B) (cs : List ℕ) (b : B) → v < 256 ^ n → Reads (p + n) l cs b
    → Reads p (exactly n v reply >> l) (be n v ++ cs) b
then_exactly p n v reply l cs b h k = reads_then p _ _ (be n v) cs v b (reads_exactly p n v reply h) (rw (length_be n v) k)

-- ---- the preamble

reads_magic : (p : ℕ) → Reads p magic_bytes magic tt
unfolding magic_bytes magic bytes_equal
reads_magic p = reads_end p (raw 18) _ magic magic tt (reads_raw p magic) (reads_check _ 3 true refl)

reads_preamble : (f : ℕ) → f < 8 → Reads 0 preamble (encode_preamble f) f
unfolding preamble magic encode_preamble
reads_preamble f l =
    let b : f < 256 ^ 4 = omega arith in
    then_exactly 0 2 18 3 _ _ f (lit< tt)
    (reads_then 2 magic_bytes _ magic _ tt f (reads_magic 2)
    (then_exactly 20 4 6 4 _ _ f (lit< tt)
    (reads_then 24 (below 4 8 5) _ (be 4 f) _ f f (reads_below 24 4 8 5 f b l)
    (then_exactly _ 1 1 6 _ [] f (lit< tt) (reads_yield _ f)))))

-- ---- the VM string

-- A VM string is read after its header tag.
reads_vm_string : (text : List ℕ) (n : ℕ) → length text ≡ n → n < 65536 → all_within 0x20 0x7E text ≡ true
    → Reads 29 header_records (join (be 1 4 ∷ be 2 n ∷ text ∷ []) ++ be 1 2) (record { present = true; place = 32; len = n })
unfolding header_records after_vm
reads_vm_string text n l short seen =
    let k : length text < 65536 = omega arith in
    let parts : join (be 1 4 ∷ be 2 (length text) ∷ text ∷ []) ++ be 1 2 ≡ be 1 4 ++ ((be 2 (length text) ++ text) ++ be 1 2) = simp (append-nil, append_assoc) in
    rw (← l, parts)
    (reads_then 29 (field 1) _ (be 1 4) _ 4 _ (reads_field 29 1 4 (lit< tt))
    (rw (length_be 1 4)
    (reads_then 30 (string 0x20 0) _ (be 2 (length text) ++ text) (be 1 2) _ _ (reads_string 30 0x20 0 text (omega arith) k seen)
    (reads_end _ after_vm _ (be 1 2) tt _
    (reads_end _ (field 1) _ (be 1 2) 2 tt (reads_field _ 1 2 (lit< tt))
    (reads_skip _ _ _ _ tt tt (reads_check _ 7 true refl) (reads_check _ 6 true refl)))
    (reads_yield _ _)))))

reads_vm : (names : List ℕ) (t : StringSpan) → good_vm names t ≡ true → Reads 29 header_records (encode_vm names t ++ be 1 2) (written_vm t)
unfolding header_records encode_vm written_vm
reads_vm names t g = by t.present refl
  where
    v : VmInBounds names t
    v = vm_in_bounds names t g

    by : (b : Bool) → t.present ≡ b
        → Reads 29 header_records (cond b (join (be 1 4 ∷ be 2 t.len ∷ vm_text names t ∷ [])) [] ++ be 1 2)
        (cond b (record { present = true; place = 32; len = t.len }) no_string)
    by true e = reads_vm_string (vm_text names t) t.len (length_vm_text names t v e) (v.short e) (v.printable e)
    by false e = reads_end 29 (field 1) _ (be 1 2) 2 no_string (reads_field 29 1 2 (lit< tt)) (reads_yield _ no_string)

-- ---- the flags

header_flags_bits : (a b c : Bool) → let f = flag_value a 1 + flag_value b 2 + flag_value c 4 in (f < 8) × (bit 1 f ≡ a) × (bit 2 f ≡ b) × (bit 4 f ≡ c)
unfolding bit
header_flags_bits true true true = (lit< tt, refl, refl, refl)
header_flags_bits true true false = (lit< tt, refl, refl, refl)
header_flags_bits true false true = (lit< tt, refl, refl, refl)
header_flags_bits true false false = (lit< tt, refl, refl, refl)
header_flags_bits false true true = (lit< tt, refl, refl, refl)
header_flags_bits false true false = (lit< tt, refl, refl, refl)
header_flags_bits false false true = (lit< tt, refl, refl, refl)
header_flags_bits false false false = (lit< tt, refl, refl, refl)

bits_of_flag : (w : ℕ) → ValidBits w → cond (eqb w 64) 64 32 ≡ w
bits_of_flag w k = ⊎_elim (λ e. rw e) (λ e. rw e) k

header_of_flags : (h : Header) → ValidBits h.bits → make_header (header_flags h) (written_vm h.vm) ≡ written_header h
unfolding make_header header_flags
header_of_flags h w =
    let b = header_flags_bits (eqb h.bits 64) h.hashed h.openj9 in
    rw (b.1, b.2, b.3, bits_of_flag h.bits w)

header_flags_lt : (h : Header) → header_flags h < 8
unfolding header_flags
header_flags_lt h = (header_flags_bits (eqb h.bits 64) h.hashed h.openj9).0

-- ---- the header

-- A good header at the start of a dump is read back.
pub decode_encode_header : (names : List ℕ) (h : Header) → ValidBits h.bits → good_vm names h.vm ≡ true → Reads 0 header (encode_header names h) (written_header h)
unfolding header
decode_encode_header names h w g =
    let f : ℕ = header_flags h in
    rw (header_parts names h, ← append_assoc (encode_vm names h.vm) (be 1 2) (be 1 2), ← header_of_flags h w)
    (reads_then 0 preamble _ (encode_preamble f) _ f _ (reads_preamble f (header_flags_lt h))
    (rw (length_preamble f)
    (reads_then 29 header_records _ (encode_vm names h.vm ++ be 1 2) (be 1 2) (written_vm h.vm) _ (reads_vm names h.vm g)
    (reads_end _ (exactly 1 2 6) _ (be 1 2) 2 _ (reads_exactly _ 1 2 6 (lit< tt)) (reads_yield _ _)))))

written_vm_if_present : (t : StringSpan) → t.present ≡ true → written_vm t ≡ record { present = true; place = 32; len = t.len }
unfolding written_vm
written_vm_if_present t e = rw e

-- A VM string is read exactly when one was passed in.
pub written_vm_present : (t : StringSpan) → (written_vm t).present ≡ t.present
unfolding written_vm
written_vm_present t = by t.present
  where
    by : (b : Bool) → (cond b (record { present = true; place = 32; len = t.len }) no_string).present ≡ b
    by true = refl
    by false = refl

-- The bytes of the VM string lie at the place that is read.
pub written_vm_text : (names : List ℕ) (h : Header) (rest : List ℕ) → good_vm names h.vm ≡ true → h.vm.present ≡ true
    → vm_text (encode_header names h ++ rest) (written_vm h.vm) ≡ vm_text names h.vm
unfolding encode_vm
written_vm_text names h rest g there =
    let t : StringSpan = h.vm in
    let f : ℕ = header_flags h in
    let front : List ℕ = encode_preamble f ++ (be 1 4 ++ be 2 t.len) in
    let suffix : List ℕ = be 1 2 ++ (be 1 2 ++ rest) in
    let parts : encode_header names h ++ rest ≡ front ++ (vm_text names t ++ suffix) = rw (header_parts names h, there) (simp (append-nil, append_assoc)) in
    let l : length front ≡ 32 =
    rw (length-append (encode_preamble f) (be 1 4 ++ be 2 t.len), length_preamble f, length-append (be 1 4) (be 2 t.len), length_be 1 4, length_be 2 t.len) in
    rw (written_vm_if_present t there, parts, drop_at front (vm_text names t ++ suffix) 32 l, take_at (vm_text names t) suffix t.len (length_vm_text names t (vm_in_bounds names t g) there))
