-- Blocks of no object: claimed, written, and given back.
use Rattle.std.proofs.Common.{◌≡◌, ◌≢◌, ℕ, false, Some, refl, sym, ◌∙◌}
use Rattle.vol_image.proofs.Words.{BlockState, Frames, Free, Graph, Holds, Image, IsEntry, IsLoose, MapEntry, OwnsItself, StandsForNone, entry_in, is_fixed, with_entry}
use Rattle.vol_image.proofs.Parts.{taken_part}
use Rattle.vol_image.proofs.Steps.{frames_entry}

-- an entry of a loose block, claimed, given back or intended
pub loose_entry : (a : Image) (g : Graph) (c : Image) (n : ℕ) (e old : MapEntry) → Holds a g → Frames a g c → IsLoose a g n → entry_in c n ≡ Some old → IsEntry e → OwnsItself n e → StandsForNone a g e → StandsForNone a g old → Frames a g (with_entry c n e)
loose_entry a g c n e old holds frames loose was is itself new_none old_none =
    frames_entry a g c n e old holds frames loose.apart (λ held. absurd (loose.unheld held)) was is itself
    (λ id o at bit. new_none id o at bit ∙ sym (old_none id o at bit))

-- the state of a block that is not Free, held or not: the part is the same
pub restated_entry : (a : Image) (g : Graph) (c : Image) (n : ℕ) (old : MapEntry) (s : BlockState) → Holds a g → Frames a g c → is_fixed n ≡ false → entry_in c n ≡ Some old → old.state ≢ Free → s ≢ Free → IsEntry (record old { state = s })
    → StandsForNone a g (record old { state = s }) → StandsForNone a g old → Frames a g (with_entry c n (record old { state = s }))
restated_entry a g c n old s holds frames apart was taken still is new_none old_none =
    frames_entry a g c n (record old { state = s }) old holds frames apart
    (λ _. taken_part s old.committed old.place old.owner still ∙ sym (taken_part old.state old.committed old.place old.owner taken))
    was is (frames.own n old was) (λ id o at bit. new_none id o at bit ∙ sym (old_none id o at bit))

-- no Free entry is a shadow root's
pub free_stands_for_none : (a : Image) (g : Graph) (e : MapEntry) → e.state ≡ Free → StandsForNone a g e
free_stands_for_none a g e is = λ id o at bit. rw is refl
