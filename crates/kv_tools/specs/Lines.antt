-- The lines of the reports.
use Rattle.std.specs.Prelude.{ℕ, ◌+◌, List, [], ◌∷◌, ◌++◌, ◌==◌, codes, if◌then◌else◌}
use Rattle.std.specs.Fmt.{decimal}
use Rattle.std.specs.List.{concat}
use Rattle.hex.specs.Hex.{encode_lower}
use Rattle.kv_recover.specs.declared.kind.ClassCount.{ClassCount}
use Rattle.kv_recover.specs.declared.kind.Survey.{Survey}

-- the line of a class of a disk, its numbers in decimal
abbrev pub class_line : ℕ → ℕ → ClassCount → List ℕ
class_line disk class count = concat (
    codes "disk " ∷ decimal disk ∷ codes " class " ∷ decimal class
    ∷ codes " end " ∷ decimal count.end ∷ codes " kept " ∷ decimal count.kept
    ∷ codes " stale " ∷ decimal count.stale ∷ codes " foreign " ∷ decimal count.foreign
    ∷ codes " tomb " ∷ decimal count.tomb ∷ codes " never " ∷ decimal count.never
    ∷ codes " torn " ∷ decimal count.torn ∷ codes " bad " ∷ decimal count.bad
    ∷ codes "\n" ∷ [])

-- its line, where the class has a slot below its end
abbrev pub class_part : ℕ → ℕ → ClassCount → List ℕ
class_part disk class count = if count.end == 0 then [] else class_line disk class count

-- the lines of the classes from this one on
abbrev pub class_lines : ℕ → ℕ → List ClassCount → List ℕ
class_lines disk class [] = []
class_lines disk class (count ∷ counts) =
    class_part disk class count ++ class_lines disk (class + 1) counts

-- the line of a new disk
abbrev pub new_line : ℕ → List ℕ
new_line disk = codes "disk " ++ (decimal disk ++ codes " new\n")

-- the last line of a disk: the greatest number at the head of a page of a slot, and how many keys
-- have an item
abbrev pub floor_line : ℕ → ℕ → ℕ → List ℕ
floor_line disk floor keys = concat (
    codes "disk " ∷ decimal disk ∷ codes " floor " ∷ decimal floor
    ∷ codes " keys " ∷ decimal keys ∷ codes "\n" ∷ [])

-- the lines of a disk
unfoldable pub disk_lines : ℕ → Survey → List ℕ
disk_lines disk survey =
    if survey.fresh then new_line disk
    else class_lines disk 1 survey.classes.items ++ floor_line disk survey.floor survey.keys

-- the lines of the disks from this one on
abbrev pub report : ℕ → List Survey → List ℕ
report disk [] = []
report disk (survey ∷ surveys) = disk_lines disk survey ++ report (disk + 1) surveys

-- the line of an item: its stamp in decimal, its key and its value, each byte as two lower-case
-- hexadecimal digits
abbrev pub item_line : ℕ → List ℕ → List ℕ → List ℕ
item_line stamp key value = concat (
    decimal stamp ∷ codes " " ∷ encode_lower key ∷ codes " " ∷ encode_lower value
    ∷ codes "\n" ∷ [])
