use Rattle.std.proofs.Common.{◌≡◌, subst, List, ℕ}
use Rattle.ufs_model.proofs.Words.{IsBinarySearchResult, insert, nat_cmp, with_number}
use Rattle.ufs_model.proofs.NumberLists.{place_found}
use Rattle.ufs_model.proofs.numbers.Numbers.place_for.Goals as goal

pub returns-in-Ok-clause-there : goal.returns-in-Ok-clause-there
returns-in-Ok-clause-there c =
    let n = c.args.number in
    let found = subst (λ (ns : List ℕ). IsBinarySearchResult (λ y. nat_cmp y n) ns c.binary_search.result) c.as_slice.ensures.value c.binary_search.ensures.position in
    let place = place_found n c.self.inside.numbers.items c.binary_search.result c.self.invariant found in
    subst (λ (ns : List ℕ). with_number n ns ≡ ns) c.self.view_is (rw c.in-Ok.is at place)

pub returns-in-Err-clause-place : goal.returns-in-Err-clause-place
returns-in-Err-clause-place c =
    let n = c.args.number in
    let found = subst (λ (ns : List ℕ). IsBinarySearchResult (λ y. nat_cmp y n) ns c.binary_search.result) c.as_slice.ensures.value c.binary_search.ensures.position in
    let place = place_found n c.self.inside.numbers.items c.binary_search.result c.self.invariant found in
    subst (λ (ns : List ℕ). with_number n ns ≡ insert ns c.in-Err.at n) c.self.view_is (rw c.in-Err.is at place)
