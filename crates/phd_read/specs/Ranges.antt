-- Every stored reference lies in 1 to 2^W - 1, and the address of every stored row in 0 to 2^W - 1, where W is that of the header
-- that the reading returns.
-- Assumes nothing.
use Rattle.std.specs.Prelude.{◌≡◌, refl, ℕ, ◌≤◌, ◌<◌, true, ◌&&◌, List, [], ◌∷◌, ◌++◌, length, leb}
use Rattle.std.proofs.Common.{sym, ◌∙◌, arith}
use Rattle.std.proofs.Math.Bool.{and_assoc}
use Rattle.decode.specs.Numbers.{all_within}
use Rattle.phd.specs.Phd.{max_address, State, phd, capacity, read_result}
use Rattle.table.specs.Table.{row_count, number, number_row_slice}
use Rattle.phd_read.specs.RecordProperties.{entry_read_from}
use Rattle.phd_read.specs.RowTags.{phd_row_origins}
use Rattle.reader.proofs.Steps.{read_tables}

-- ---- references

within_append : (low high : ℕ) (xs ys : List ℕ) → all_within low high (xs ++ ys) ≡ all_within low high xs && all_within low high ys
unfolding all_within
within_append low high [] ys = refl
within_append low high (x ∷ xs) ys = rw (within_append low high xs ys) (sym (and_assoc (leb low x && leb x high) (all_within low high xs) (all_within low high ys)))

-- Every stored reference lies in 1 to 2^W - 1.
pub refs_within : (s : List ℕ) (R F : ℕ) → all_within 1 (max_address (read_result s R F).header.bits) (read_result s R F).refs ≡ true
unfolding all_within
refs_within s R F =
    read_tables phd s (capacity R F) (λ h rows refs. all_within 1 (max_address h.bits) refs ≡ true)
    (λ h rows refs c at r rs sp k n t e p q.
    rw (within_append, t) (entry_read_from h s c.address c.cache (length refs) at r rs sp k n e).refs.in_bounds.range)
    (λ h. refl)

-- ---- addresses

-- The address of every stored row, its number 1, is at most 2^W - 1.
pub addresses_within : (s : List ℕ) (R F i : ℕ) → i < row_count (read_result s R F).rows → number (read_result s R F).rows i 1 ≤ max_address (read_result s R F).header.bits
addresses_within s R F i l =
    let x = (phd_row_origins s R F).each i l in
    let st : State = x.before in
    let k = entry_read_from (read_result s R F).header s st.context.address st.context.cache (length st.refs) st.at _ x.list x.note x.context x.end x.item_is in
    let e : number (read_result s R F).rows i 1 ≡ x.context.address = number_row_slice (read_result s R F).rows i 1 (omega arith) ∙ k.address in
    omega (arith, e, k.most)
