-- `put::fits` meets its contract. Assumes nothing.
use Rattle.std.proofs.Common.{rules}
use Rattle.record_display.proofs.RecordFieldLaws.{fits-any}
use Rattle.record_display.proofs.put.fits.Goals as goal

pub returns-then-last_len-room : goal.returns-then-last_len-room
returns-then-last_len-room c = search (fits-any, rules)
