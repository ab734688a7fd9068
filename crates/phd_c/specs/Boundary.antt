-- A header and an answer as numbers, at the C boundary (docs/FORMAT.md 5 and 6).
-- A reader must believe these definitions.
use Rattle.std.specs.Prelude.{◌≡◌, refl, Bool, true, false, cond, List, [], ◌∷◌, ℕ, ltb, get_or, set, take, drop}
use Rattle.phd.specs.declared.Header.{Header}
use Rattle.phd_read.specs.declared.ReadAnswer.{ReadAnswer}
use Rattle.table.specs.declared.Answer.{Answer}
use Rattle.classes_read.specs.declared.ClassesAnswer.{ClassesAnswer}

-- A flag as a number: 1 if it is set, else 0.
abbrev pub flag : Bool → ℕ
flag b = cond b 1 0

-- The header that six numbers give: W, all-hashed, from OpenJ9, whether there is a VM string, its place and its length. A flag is
-- set if its number is not 0.
unfoldable pub header_from : List ℕ → Header
header_from l =
    let set : ℕ → Bool = λ i. ltb 0 (get_or l i 0) in
    record {
      bits = get_or l 0 0;
      hashed = set 1;
      openj9 = set 2;
      vm = record { present = set 3; place = get_or l 4 0; len = get_or l 5 0 };
    }

-- The numbers of a reading's answer: reply, place, rows, references, the six numbers of the header, and the missing bytes.
unfoldable pub read_answer_numbers : ReadAnswer → List ℕ
read_answer_numbers r =
    let f : Header = r.header in
    r.reply ∷ r.place ∷ r.rows ∷ r.refs ∷ f.bits ∷ flag f.hashed ∷ flag f.openj9 ∷ flag f.vm.present ∷ f.vm.place ∷ f.vm.len
    ∷ r.missing ∷ 0 ∷ 0 ∷ 0 ∷ 0 ∷ 0 ∷ []

-- The numbers of the answer of a reading with class summaries: those of a reading, and as number 11 how many entries are in use.
unfoldable pub classes_answer_numbers : ClassesAnswer → List ℕ
classes_answer_numbers r = set (read_answer_numbers r.read) 11 r.entries

-- Each number at its place, by computation.
pub places_example :
    classes_answer_numbers
    (record {
      read = record {
        reply = 100;
        place = 101;
        missing = 110;
        rows = 102;
        refs = 103;
        header = record { bits = 104; hashed = true; openj9 = false; vm = record { present = true; place = 108; len = 109 } };
      };
      entries = 111;
    })
    ≡ (100 ∷ 101 ∷ 102 ∷ 103 ∷ 104 ∷ 1 ∷ 0 ∷ 1 ∷ 108 ∷ 109 ∷ 110 ∷ 111 ∷ 0 ∷ 0 ∷ 0 ∷ 0 ∷ [])
unfolding read_answer_numbers classes_answer_numbers
places_example = refl

-- The numbers of the answer of a write or of a size query: reply and place.
unfoldable pub answer_numbers : Answer → List ℕ
answer_numbers w = w.reply ∷ w.place ∷ 0 ∷ 0 ∷ 0 ∷ 0 ∷ 0 ∷ 0 ∷ 0 ∷ 0 ∷ 0 ∷ 0 ∷ 0 ∷ 0 ∷ 0 ∷ 0 ∷ []

-- ---- the header of a reading, passed to a write

-- A flag is read back from its number.
flag_round_trip : (b : Bool) → ltb 0 (flag b) ≡ b
flag_round_trip true = refl
flag_round_trip false = refl

-- Numbers 4 to 9 of a reading's answer, passed on as a header, give the header that was read.
pub header_round_trip : (r : ReadAnswer) → header_from (take 6 (drop 4 (read_answer_numbers r))) ≡ r.header
unfolding header_from read_answer_numbers
header_round_trip r = λ j. record {
  bits = r.header.bits;
  hashed = flag_round_trip r.header.hashed j;
  openj9 = flag_round_trip r.header.openj9 j;
  vm = record { present = flag_round_trip r.header.vm.present j; place = r.header.vm.place; len = r.header.vm.len };
}
