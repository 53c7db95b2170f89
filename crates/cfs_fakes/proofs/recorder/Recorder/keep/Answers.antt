use Rattle.std.proofs.Common.{inl, inr, ⊎_elim, ℕ, ◌+◌, List, [], ◌∷◌, ◌++◌, IsTrue, refl, sym, ◌∙◌, ap, subst, arith}
use Rattle.cfs_base.specs.Disk.{Image}
use Rattle.cfs_base.specs.Replay.{Left, all_before}
use Rattle.cfs_base.proofs.Replays.{before_more, replay_kept, left_kept, left_now_kept, left_earlier, replay_kept_before}
use Rattle.cfs_fakes.specs.declared.kept.KeptCall.{KeptCall}
use Rattle.cfs_fakes.specs.declared.recorder.Recorder.{Recorder}
use Rattle.cfs_fakes.specs.Replay.{zeros, made, made_at, replayed_calls, IsImage}
use Rattle.cfs_fakes.proofs.recorder.Recorder.keep.Goals as goal

-- a crash may leave it after these calls, up to this moment
abbrev LeftBy : Recorder → ℕ → List KeptCall → ℕ → Image → Type 0
LeftBy r now kept t i = IsTrue r.keeps × Left IsImage (λ m. replayed_calls (zeros r.blocks) m kept) now t i

-- the list that a push left as it was
pub returns-in_default-clause-images : goal.returns-in_default-clause-images
returns-in_default-clause-images c =
    let r = c.args.self.now in
    let p = c.pass-in_default.ensures.images in
    let was : (t : ℕ) (i : Image) → LeftBy r r.moment c.push.new.self.items t i → LeftBy r r.moment r.kept.items t i =
    λ t i h. subst (λ (l : List KeptCall). LeftBy r r.moment l t i) c.in_default.ensures.items h in
    record {
      later = p.later;
      since = λ t i le h. ⊎_elim (λ old. inl (was t i old)) (λ none. absurd none) (p.since t i le h);
      now = λ i h. ⊎_elim (λ old. inl (was r.moment i old)) (λ none. absurd none) (p.now i h);
    }

pub returns-in_default-clause-earlier : goal.returns-in_default-clause-earlier
returns-in_default-clause-earlier c =
    let r = c.args.self.now in
    λ t i le h. c.pass-in_default.ensures.earlier t i le (subst (λ (l : List KeptCall). LeftBy r r.moment l t i) (sym c.in_default.ensures.items) h)

pub invariant_of-self-2 : goal.invariant_of-self-2
invariant_of-self-2 c =
    let r = c.args.self.now in
    record { past = subst (λ (l : List KeptCall). IsTrue (all_before made_at (r.moment + 1) l)) (sym c.in-Ok.ensures.items) (before_more made_at r.moment r.kept.items (record { moment = r.moment; call = c.args.call }) refl r.past) }

pub returns-clause-kept : goal.returns-clause-kept
returns-clause-kept c =
    let r = c.args.self.now in
    λ does. ap (λ (l : List KeptCall). replayed_calls (zeros r.blocks) (r.moment + 1) l) c.in-Ok.ensures.items ∙ replay_kept made_at made (zeros r.blocks) r.moment r.kept.items r.past (record { moment = r.moment; call = c.args.call }) refl

pub returns-clause-images : goal.returns-clause-images
returns-clause-images c =
    let r = c.args.self.now in
    let e : KeptCall = record { moment = r.moment; call = c.args.call } in
    let is : (t : ℕ) (i : Image) → LeftBy r (r.moment + 1) c.push.new.self.items t i → LeftBy r (r.moment + 1) (r.kept.items ++ e ∷ []) t i =
    λ t i h. subst (λ (l : List KeptCall). LeftBy r (r.moment + 1) l t i) c.in-Ok.ensures.items h in
    let kept = left_kept made_at made IsImage (zeros r.blocks) r.moment r.kept.items r.past e refl in
    record {
      later = omega arith;
      since = λ t i le h. ⊎_elim (λ was. inl (h.0, was)) (λ now. inr (h.0, now)) (kept t t i (omega arith) le (is t i h).1);
      now = λ i h. ⊎_elim (λ was. inl (h.0, was)) (λ now. inr (h.0, now)) (kept r.moment (r.moment + 1) i (omega arith) (omega arith) (is (r.moment + 1) i h).1);
    }

pub returns-clause-here : goal.returns-clause-here
returns-clause-here c =
    let r = c.args.self.now in
    λ i h. left_now_kept made_at made IsImage (zeros r.blocks) r.moment r.kept.items r.past (record { moment = r.moment; call = c.args.call }) refl i (subst (λ (l : List KeptCall). LeftBy r (r.moment + 1) l (r.moment + 1) i) c.in-Ok.ensures.items h).1

pub returns-clause-earlier : goal.returns-clause-earlier
returns-clause-earlier c =
    let r = c.args.self.now in
    λ t i le h. subst (λ (l : List KeptCall). LeftBy r (r.moment + 1) l t i) (sym c.in-Ok.ensures.items) (h.0, left_earlier made_at made IsImage (zeros r.blocks) r.moment r.kept.items r.past (record { moment = r.moment; call = c.args.call }) refl t i h.1)

pub returns-clause-past : goal.returns-clause-past
returns-clause-past c =
    let r = c.args.self.now in
    λ t le. ap (λ (l : List KeptCall). replayed_calls (zeros r.blocks) t l) c.in-Ok.ensures.items ∙ replay_kept_before made_at made (zeros r.blocks) r.moment r.kept.items r.past (record { moment = r.moment; call = c.args.call }) refl t le
