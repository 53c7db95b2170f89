use Rattle.std.proofs.Common.{◌≡◌, ◌+◌, ◌<◌, ℕ, zero, suc, List, [], ◌∷◌, ◌++◌, length, map, take, get_or, refl, sym, ◌∙◌, ap, subst, arith, append_assoc, append-nil}
use Rattle.std.proofs.lemmas.List.{map_more}
use Rattle.std.proofs.lemmas.List.Elements.{Contains-get_or}
use Rattle.std.proofs.Math.Seq.{take-length}
use Rattle.std.specs.List.{AllZip}
use Rattle.cfs_base.specs.declared.kind.Kind.TheVariants.{Normal}
use Rattle.cfs_base.specs.declared.kind.Place.TheVariants.{Root}
use Rattle.ufs_model.specs.Numbers.{has_number}
use Rattle.cfs_check.specs.Items.{AtTwig, Item, Knows}
use Rattle.cfs_check.specs.Roots.{Extends, Found, HasAll}
use Rattle.cfs_check.specs.Twigs.{Twig}
use Rattle.cfs_check.proofs.Noted.{has_more}
use Rattle.cfs_check.proofs.note.note_all.Goals as goal

all_zip_at : {A B : Type 0} (R : A → B → Type 0) (xs : List A) (ys : List B) (i : ℕ) (d : A) (e : B) → AllZip R xs ys → i < length xs → R (get_or xs i d) (get_or ys i e)
all_zip_at R [] ys i d e all inside = absurd (omega arith)
all_zip_at R (x ∷ xs) [] i d e all inside = absurd all
all_zip_at R (x ∷ xs) (y ∷ ys) zero d e all inside = all.0
all_zip_at R (x ∷ xs) (y ∷ ys) (suc i) d e all inside = all_zip_at R xs ys i d e all.1 (omega arith)

has_all : (old new : Found) → Extends old new → HasAll old.blocks new.blocks
has_all old new extends n has = ap (has_number n) extends.is ∙ has_more old.blocks extends.more n has

extends_then : (a b c : Found) → Extends a b → Extends b c → Extends a c
extends_then a b c one two = record {
  more = one.more ++ two.more;
  is = two.is ∙ ap (λ (ns : List ℕ). ns ++ two.more) one.is ∙ append_assoc a.blocks one.more two.more;
}

pub loop-at-init : goal.loop-at-init
loop-at-init c = record {
  room = refl;
  known = λ before items knows all. (subst (λ (is : List Item). Knows c.args.image.now before is c.args.survey.now) (sym (append-nil items)) knows, record { more = []; is = sym (append-nil _) });
}

-- what is read past the last twig
no_twig : Twig
no_twig = record { spot = record { holder = 0; block = 0; owner = 0; place = Root }; extent = record { kind = Normal; fill = 0; size = 0 } }

pub note_twig-requires-clause-holder : goal.note_twig-requires-clause-holder
unfolding no_twig
note_twig-requires-clause-holder c =
    c.requires.holders (get_or c.args.twigs.now c.loop-at.at no_twig) (Contains-get_or c.args.twigs.now c.loop-at.at no_twig (omega (arith, c.loop-at-test.true)))

pub loop-at-preserved : goal.loop-at-preserved
unfolding no_twig
loop-at-preserved c =
    let ts = c.args.twigs.now in
    let n = c.loop-at.at in
    let start = c.args.survey.now.roots in
    let inside : n < length ts = omega (arith, c.loop-at-test.true) in
    record {
      room = c.in_ok-note_twig.ensures.room ∙ c.loop-at.invariant.room;
      known = λ before items knows all.
          let were = c.loop-at.invariant.known before items knows all in
          let now = c.in_ok-note_twig.ensures.known before (items ++ map AtTwig (take n ts)) start.blocks were.0
          (all_zip_at _ ts c.args.found.now n no_twig _ all inside) (has_all start c.loop-at.survey.roots were.1) in (
            subst (λ (is : List Item). Knows c.args.image.now before is c.note_twig.new.survey)
                (append_assoc items (map AtTwig (take n ts)) _ ∙ ap (λ (is : List Item). items ++ is) (sym (map_more AtTwig ts n no_twig inside))) now.0,
            extends_then start c.loop-at.survey.roots c.note_twig.new.survey.roots were.1 now.1,
          );
    }

pub returns-clause-known : goal.returns-clause-known
returns-clause-known c before items knows all =
    let ts = c.args.twigs.now in
    let done : c.loop-at.at ≡ length ts = omega (arith, c.loop-at-test.false, c.loop-at.auto.at-end) in
    let were = c.loop-at.invariant.known before items knows all in
    (subst (λ (us : List Twig). Knows c.args.image.now before (items ++ map AtTwig us) c.loop-at.survey) (ap (λ (n : ℕ). take n ts) done ∙ take-length ts) were.0, were.1)
