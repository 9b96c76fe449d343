-- The class is freed to its end.
use Rattle.kv_base.proofs.CrashLemmas.{weaker}
use Rattle.kv_recover.proofs.FreeSteps.{freed-start, freed-end, may-class}
use Rattle.kv_recover.proofs.free.free_next.Goals as goal

pub returns-in_err-free_class-clause-any_moment : goal.returns-in_err-free_class-clause-any_moment
returns-in_err-free_class-clause-any_moment g c = λ first ends end_is below.
    weaker _ _ _ _ _ _ (c.free_class.ensures.any_moment first ends end_is
    (freed-start g.D.Disk _ first ends c.args.floor c.args.class c.args.disk.now _ c.new-stack.ensures
    below))
    (may-class (g.I.Index.entries c.args.index.now) first ends c.args.floor c.args.class c.args.end
    end_is)

pub returns-clause-any_moment : goal.returns-clause-any_moment
returns-clause-any_moment g c = λ first ends end_is below.
    weaker _ _ _ _ _ _ (c.free_class.ensures.any_moment first ends end_is
    (freed-start g.D.Disk _ first ends c.args.floor c.args.class c.args.disk.now _ c.new-stack.ensures
    below))
    (may-class (g.I.Index.entries c.args.index.now) first ends c.args.floor c.args.class c.args.end
    end_is)

pub returns-clause-done : goal.returns-clause-done
returns-clause-done g c = λ first ends end_is taken below.
    let has = c.in_ok-free_class.ensures.done first ends end_is taken
    (freed-start g.D.Disk _ first ends c.args.floor c.args.class c.args.disk.now _ c.new-stack.ensures
    below) in (
      freed-end g.D.Disk _ first ends c.args.floor c.args.class c.args.end c.free_class.new.disk _
          end_is has,
      has.list,
    )
