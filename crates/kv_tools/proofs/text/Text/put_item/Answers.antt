-- The texts of a line are put one behind the other.
use Rattle.std.proofs.Common.{List, ℕ, [], ◌∷◌}
use Rattle.std.specs.Fmt.{decimal}
use Rattle.std.proofs.lemmas.Result.{on_ok_weaker, on_err_weaker}
use Rattle.hex.specs.Hex.{encode_lower}
use Rattle.kv_recover.proofs.CauseLemmas.{on_err}
use Rattle.kv_tools.proofs.SentLemmas.{puts_none, puts_first, puts_next, front_next}
use Rattle.kv_tools.proofs.text.Text.put_item.Goals as goal

abbrev space : List ℕ
space = 32 ∷ []

abbrev end : List ℕ
end = 10 ∷ []

pub returns-in_err-put_number-clause-err : goal.returns-in_err-put_number-clause-err
returns-in_err-put_number-clause-err g c =
    let k = encode_lower c.args.key.now in
    let v = encode_lower c.args.value.now in
    on_err c.from_residual.result _
    (front_next [] (decimal c.args.stamp) (space ∷ k ∷ space ∷ v ∷ end ∷ []) (puts_none _ _)
    c.in_err-put_number.ensures.err)

pub returns-in_err-put-clause-err : goal.returns-in_err-put-clause-err
returns-in_err-put-clause-err g c =
    let s = decimal c.args.stamp in
    let k = encode_lower c.args.key.now in
    let v = encode_lower c.args.value.now in
    on_err c.from_residual-in_err-put.result _
    (front_next (s ∷ []) space (k ∷ space ∷ v ∷ end ∷ [])
    (puts_first s c.in_ok-put_number.ensures.ok) c.in_err-put.ensures.err)

pub returns-in_err-put_hex-clause-err : goal.returns-in_err-put_hex-clause-err
returns-in_err-put_hex-clause-err g c =
    let s = decimal c.args.stamp in
    let k = encode_lower c.args.key.now in
    let v = encode_lower c.args.value.now in
    on_err c.from_residual-in_err-put_hex.result _
    (front_next (s ∷ space ∷ []) k (space ∷ v ∷ end ∷ [])
    (puts_next (s ∷ []) space (puts_first s c.in_ok-put_number.ensures.ok) c.in_ok-put.ensures.ok)
    c.in_err-put_hex.ensures.err)

pub returns-in_err-put-2-clause-err : goal.returns-in_err-put-2-clause-err
returns-in_err-put-2-clause-err g c =
    let s = decimal c.args.stamp in
    let k = encode_lower c.args.key.now in
    let v = encode_lower c.args.value.now in
    on_err c.from_residual-in_err-put-2.result _
    (front_next (s ∷ space ∷ k ∷ []) space (v ∷ end ∷ [])
    (puts_next (s ∷ space ∷ []) k
    (puts_next (s ∷ []) space (puts_first s c.in_ok-put_number.ensures.ok) c.in_ok-put.ensures.ok)
    c.in_ok-put_hex.ensures.ok)
    c.in_err-put-2.ensures.err)

pub returns-in_err-put_hex-2-clause-err : goal.returns-in_err-put_hex-2-clause-err
returns-in_err-put_hex-2-clause-err g c =
    let s = decimal c.args.stamp in
    let k = encode_lower c.args.key.now in
    let v = encode_lower c.args.value.now in
    on_err c.from_residual-in_err-put_hex-2.result _
    (front_next (s ∷ space ∷ k ∷ space ∷ []) v (end ∷ [])
    (puts_next (s ∷ space ∷ k ∷ []) space
    (puts_next (s ∷ space ∷ []) k
    (puts_next (s ∷ []) space (puts_first s c.in_ok-put_number.ensures.ok) c.in_ok-put.ensures.ok)
    c.in_ok-put_hex.ensures.ok) c.in_ok-put-2.ensures.ok)
    c.in_err-put_hex-2.ensures.err)

pub returns-clause-ok : goal.returns-clause-ok
returns-clause-ok g c =
    let s = decimal c.args.stamp in
    let k = encode_lower c.args.key.now in
    let v = encode_lower c.args.value.now in
    on_ok_weaker c.put-3.result
    (puts_next (s ∷ space ∷ k ∷ space ∷ v ∷ []) end
    (puts_next (s ∷ space ∷ k ∷ space ∷ []) v
    (puts_next (s ∷ space ∷ k ∷ []) space
    (puts_next (s ∷ space ∷ []) k
    (puts_next (s ∷ []) space (puts_first s c.in_ok-put_number.ensures.ok) c.in_ok-put.ensures.ok)
    c.in_ok-put_hex.ensures.ok) c.in_ok-put-2.ensures.ok) c.in_ok-put_hex-2.ensures.ok))
    c.put-3.ensures.ok

pub returns-clause-err : goal.returns-clause-err
returns-clause-err g c =
    let s = decimal c.args.stamp in
    let k = encode_lower c.args.key.now in
    let v = encode_lower c.args.value.now in
    on_err_weaker c.put-3.result
    (front_next (s ∷ space ∷ k ∷ space ∷ v ∷ []) end []
    (puts_next (s ∷ space ∷ k ∷ space ∷ []) v
    (puts_next (s ∷ space ∷ k ∷ []) space
    (puts_next (s ∷ space ∷ []) k
    (puts_next (s ∷ []) space (puts_first s c.in_ok-put_number.ensures.ok) c.in_ok-put.ensures.ok)
    c.in_ok-put_hex.ensures.ok) c.in_ok-put-2.ensures.ok) c.in_ok-put_hex-2.ensures.ok))
    c.put-3.ensures.err
