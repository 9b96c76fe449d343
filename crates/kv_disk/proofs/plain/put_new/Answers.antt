-- The map gives the new page the place behind the others.
use Rattle.std.proofs.Common.{◌≡◌, length, ◌∙◌}
use Rattle.kv_disk.specs.Plain.{place_of}
use Rattle.kv_disk.specs.PlainFields.{Places}
use Rattle.kv_disk.proofs.plain.put_new.Goals as goal

pub returns-clause-placed : goal.returns-clause-placed
returns-clause-placed c =
    let counted : c.len-place.result ≡ length c.args.contents.now.items = c.len-place.ensures
    ∙ c.args.contents.now.ok.0 in
    let inserted = rw c.unwrap-2.ensures at c.insert-put.ensures.updates in
    let here : Places (place_of c.args.places.now.entries) (place_of c.insert-put.new.self.entries)
    c.args.file c.args.page c.len-place.result = λ f p. inserted.0 (f, p) in
    rw counted at here
