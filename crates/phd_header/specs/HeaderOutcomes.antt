-- A header that is read whole has W 32 or 64. Assumes nothing.
use Rattle.std.specs.Prelude.{◌≡◌, refl, Bool, true, false, cond, List, ℕ}
use Rattle.std.proofs.Common.{subst, inl, inr}
use Rattle.decode.specs.Layout.{whole, run, then_inv, run_yield}
use Rattle.decode.specs.declared.StringSpan.{StringSpan}
use Rattle.phd.specs.Phd.{bit, header, make_header}
use Rattle.phd.specs.Shapes.{ValidBits}
use Rattle.phd.specs.declared.Header.{Header}

bits_32_or_64 : (b : Bool) → ValidBits (cond b 64 32)
bits_32_or_64 true = inr refl
bits_32_or_64 false = inl refl

make_header_bits : (flags : ℕ) (vm : StringSpan) → ValidBits (make_header flags vm).bits
unfolding make_header
make_header_bits flags vm = bits_32_or_64 (bit 1 flags)

-- A header that is read whole has W 32 or 64.
pub header_bits : (s : List ℕ) (h : Header) (n : ℕ) → run header s 0 ≡ whole h n → ValidBits h.bits
unfolding header
header_bits s h n r =
    let (flags, p, _, r₁) = then_inv _ _ s 0 h n r in
    let (vm, q, _, r₂) = then_inv _ _ s p h n r₁ in
    let (_, e, _, r₃) = then_inv _ _ s q h n r₂ in
    let is : make_header flags vm ≡ h = cc (run_yield (make_header flags vm) s e) in
    subst (λ (f : Header). ValidBits f.bits) is (make_header_bits flags vm)
