use Rattle.std.proofs.Common.{◌≡◌, ℕ, ◌+◌, ◌++◌, List, ◌∷◌, [], Some, length, map, take, ◌∙◌, ap, arith, slice_get}
use Rattle.cfs_core.proofs.Words.{append_assoc, common_steps, get_or_from_slice_get, map-append, slice_get_within, take_all, take_more}
use Rattle.open_table.specs.declared.grant.OpenGrant.{OpenGrant}
use Rattle.cfs_core.proofs.collecting.push_open.Goals as goal

one_more : (xs : List OpenGrant) (at : ℕ) (x : OpenGrant) → slice_get xs at ≡ Some x → map (λ (y : OpenGrant). y.id) (take (at + 1) xs) ≡ map (λ (y : OpenGrant). y.id) (take at xs) ++ x.id ∷ []
one_more xs at x is =
    ap (map (λ (y : OpenGrant). y.id)) (take_more xs at x (slice_get_within xs at x is) ∙ ap (λ (y : OpenGrant). take at xs ++ y ∷ []) (get_or_from_slice_get xs at x x is))
    ∙ map-append (λ (y : OpenGrant). y.id) (take at xs) (x ∷ [])

pub loop-place-preserved : goal.loop-place-preserved
loop-place-preserved c =
    let more = one_more c.args.grants.now.grants c.loop-place.place c.at.result c.at.ensures in
    let far = append_assoc c.args.roots.now.items (map (λ (y : OpenGrant). y.id) (take c.loop-place.place c.args.grants.now.grants)) (c.at.result.id ∷ []) in
    grind (arith, common_steps, c.loop-place.invariant, more, far)

pub returns : goal.returns
returns c =
    let all = take_all (length c.args.grants.now.grants) c.args.grants.now.grants (omega arith) in
    grind (arith, common_steps, c.loop-place.invariant, all)
