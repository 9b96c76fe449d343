-- The slots where none of the kept items is.
use Rattle.std.proofs.Common.{List, ℕ, ◌≡◌, ap, ◌∙◌, subst, sym}
use Rattle.kv_model.specs.FreeSlots.{AreFree}
use Rattle.kv_model.specs.Plain.{image_of, free_in, HasKept}
use Rattle.kv_model.proofs.ReaderLemmas.{are-free}
use Rattle.kv_model.proofs.image.free_of.Goals as goal

pub returns : goal.returns
returns c =
    let image = image_of c.args.pages.now in
    let kept = c.in_ok-kept.kept.items in
    let listed : c.in_ok-slots.slots.items ≡ free_in c.args.class kept c.in_ok-end.end =
    c.in_ok-slots.ensures
    ∙ ap (λ list. free_in c.args.class list c.in_ok-end.end) c.deref.ensures.value in
    record {
      end = c.in_ok-end.end;
      end_is = c.in_ok-end.ensures.end;
      free = subst (λ (list : List ℕ). AreFree (HasKept image c.args.share.worker
          c.args.share.workers c.args.class) (record { list = list; end = c.in_ok-end.end }))
          (sym listed) (are-free image c.args.share.worker c.args.share.workers c.args.class
          c.in_ok-end.end kept c.in_ok-kept.ensures);
    }
