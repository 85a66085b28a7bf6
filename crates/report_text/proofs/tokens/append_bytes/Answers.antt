use Rattle.std.proofs.Common.{rules}
use Rattle.report_text.proofs.LineLaws.{kept_past}
use Rattle.report_text.proofs.tokens.append_bytes.Goals as goal

pub returns-in_err-append_byte-clause-kept : goal.returns-in_err-append_byte-clause-kept
returns-in_err-append_byte-clause-kept c = kept_past _ _ c.args.out.now.items _ c.loop-b.out.items c.append_byte.new.out.items (search rules) (search rules) c.loop-b.invariant.0 c.append_byte.ensures.kept
