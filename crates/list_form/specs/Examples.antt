-- Cell bytes on each side of the marks.
use Rattle.std.specs.Prelude.{◌≡◌, refl, Bool, true, false}
use Rattle.refutation.specs.Records.{unshown, cited, barred}
use Rattle.list_form.specs.ListForm.{cell_of}

-- 255 is open with a mark for barred cells and without
pub open_byte_lem : (marks : Bool) → cell_of marks 255 ≡ unshown
open_byte_lem marks = refl

-- 254 bars a cell only where evidence has that mark; else it cites a record
pub barred_byte : cell_of true 254 ≡ barred
barred_byte = refl

pub without_mark : cell_of false 254 ≡ cited 254
without_mark = refl

-- 253 cites in either
pub cited_byte : (cell_of true 253 ≡ cited 253) × (cell_of false 253 ≡ cited 253)
cited_byte = (refl, refl)
