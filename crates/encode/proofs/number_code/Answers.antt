use Rattle.encode.proofs.EncodeLaws.{code_tests}
use Rattle.encode.proofs.number_code.Goals as goal

pub returns : goal.returns
returns c = let t = code_tests c.args.m in cc (c.from.ensures, c.from-2.ensures, c.from-3.ensures)
