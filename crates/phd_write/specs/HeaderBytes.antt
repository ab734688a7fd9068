-- The parts of the header and its size, for the functions that encode it.
-- Assumes nothing.
use Rattle.std.specs.Prelude.{◌≡◌, refl, ℕ, ◌+◌, ◌<◌, Bool, true, false, cond, List, [], ◌∷◌, ◌++◌, length}
use Rattle.std.proofs.Common.{arith, append-nil, length-append}
use Rattle.decode.specs.declared.StringSpan.{StringSpan}
use Rattle.encode.specs.Encode.{join, be}
use Rattle.encode.specs.NumberRoundTrip.{length_be}
use Rattle.phd.specs.Phd.{magic}
use Rattle.phd.specs.declared.Header.{Header}
use Rattle.phd_check.specs.GoodRows.{vm_text}
use Rattle.phd_check.specs.WellFormed.{VmInBounds, length_vm_text}
use Rattle.phd_write.specs.Write.{header_flags, encode_preamble, encode_vm, encode_header}

-- The preamble has 29 bytes.
pub length_preamble : (flags : ℕ) → length (encode_preamble flags) ≡ 29
unfolding encode_preamble magic
length_preamble flags = simp (length-append, length_be)

-- The header is the preamble, the VM string's record and the two bytes 2.
pub header_parts : (names : List ℕ) (h : Header) → encode_header names h ≡ encode_preamble (header_flags h) ++ (encode_vm names h.vm ++ (be 1 2 ++ be 1 2))
unfolding encode_header
header_parts names h = rw append-nil

-- The size of the VM string's record, 0 if there is none.
unfoldable pub vm_size : StringSpan → ℕ
vm_size t = cond t.present (3 + t.len) 0

-- The encoded record of the VM string has that size.
pub length_vm : (names : List ℕ) (t : StringSpan) → VmInBounds names t → length (encode_vm names t) ≡ vm_size t
unfolding encode_vm vm_size
length_vm names t v = by t.present refl
  where
    by : (b : Bool) → t.present ≡ b → length (cond b (join (be 1 4 ∷ be 2 t.len ∷ vm_text names t ∷ [])) []) ≡ cond b (3 + t.len) 0
    by true e = let l = length_vm_text names t v e in simp (length-append, length_be, append-nil) (omega arith)
    by false e = refl

-- The size of the header.
unfoldable pub header_size : Header → ℕ
header_size h = 31 + vm_size h.vm

-- The encoded header has that size.
pub length_header : (names : List ℕ) (h : Header) → VmInBounds names h.vm → length (encode_header names h) ≡ header_size h
unfolding header_size
length_header names h v = simp (header_parts names h, length-append, length_preamble, length_vm names h.vm v, length_be) (omega arith)

-- The header has fewer than 65,570 bytes: 34 and those of the VM string.
pub header_small : (names : List ℕ) (h : Header) → VmInBounds names h.vm → header_size h < 65570
unfolding header_size vm_size
header_small names h v = by h.vm.present refl
  where
    by : (b : Bool) → h.vm.present ≡ b → 31 + cond b (3 + h.vm.len) 0 < 65570
    by true e = let s = v.short e in omega arith
    by false e = omega arith
