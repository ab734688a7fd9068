-- The texts of answers that the programs print. A reader must believe these definitions.
use Rattle.std.specs.Prelude.{ℕ, Bool, cond, List, ◌++◌, codes, decimal}
use Rattle.table.specs.declared.Answer.{Answer}
use Rattle.phd.specs.declared.Header.{Header}
use Rattle.phd_read.specs.declared.ReadAnswer.{ReadAnswer}

-- The answer of a writer or of a size query.
abbrev pub answer_text : Answer → List ℕ
answer_text a = codes "reply " ++ (decimal a.reply ++ (codes " place " ++ decimal a.place))

-- The answer of a reading.
abbrev pub read_answer_text : ReadAnswer → List ℕ
read_answer_text r = codes "reply " ++ (decimal r.reply ++ (codes " place " ++ (decimal r.place ++ (codes " missing " ++ (decimal r.missing ++ (codes " rows " ++ (decimal r.rows ++ (codes " refs " ++ (decimal r.refs ++ (codes " bits " ++ decimal r.header.bits))))))))))

-- A flag.
abbrev pub flag_text : Bool → List ℕ
flag_text b = decimal (cond b 1 0)

-- The header's flags and VM string.
abbrev pub header_text : Header → List ℕ
header_text h = codes "all-hashed " ++ (flag_text h.hashed ++ (codes " openj9 " ++ (flag_text h.openj9 ++ (codes " vm " ++ (flag_text h.vm.present ++ (codes " place " ++ (decimal h.vm.place ++ (codes " len " ++ decimal h.vm.len))))))))
