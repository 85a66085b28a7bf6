-- Marks and an accounting may go to other threads. The check's own search doesn't get through all of it at once, so each step is shown by
-- itself.
use denote.Param.Send.{IsSend, sendable}
use Rattle.std.proofs.Crossing.{crosses}
use Rattle.kv_cell.proofs.octets.Octets.TheSendSync as octets
use Rattle.seq_accounting.proofs.mark.Mark.TheLaws.TheKnot as mark
use Rattle.seq_accounting.specs.contracts.mark.Mark as mark_row
use Rattle.seq_accounting.specs.contracts.marks.Marks as marks
use Rattle.seq_accounting.specs.contracts.families.FamilyMarks as families
use Rattle.seq_accounting.specs.contracts.regions.RegionMarks as regions
use Rattle.seq_accounting.specs.contracts.closed.FileMark as file
use Rattle.seq_accounting.specs.contracts.accounting.Accounting as accounting

mark_send : IsSend mark_row.the_row
mark_send = search (mark.send-Mark, octets.the_send, sendable, crosses) depth 20

marks_send : IsSend marks.the_row
marks_send = search (mark_send, sendable, crosses) depth 20

pub families_send : IsSend families.the_row
families_send = search (marks_send, sendable, crosses) depth 20

regions_send : IsSend regions.the_row
regions_send = search (marks_send, sendable, crosses) depth 20

file_send : IsSend file.the_row
file_send = search (marks_send, sendable, crosses) depth 20

pub accounting_send : IsSend accounting.the_row
accounting_send = search (regions_send, marks_send, file_send, sendable, crosses) fits 5000 depth 30
