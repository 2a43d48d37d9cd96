-- `need` meets its contract: the rows' refusal, or the slice length of the drawing.
use Prim.Native.Nat.{ℕ, ◌≤◌}
use mathlib.Core.Path.{refl, ap, subst, sym, ◌∙◌}
use Rattle.grid.specs.declared.NetFacts.{NetFacts}
use Rattle.grid.proofs.Numbers.{passed_on}
use Rattle.grid.proofs.OpenNets.{density_small}
use Rattle.grid.proofs.Answers.{told_facts}
use Rattle.router.proofs.Laws.Calls.{tracks_by, sweep_ready, need_refused, need_stated, need_promised}
use Rattle.router.proofs.need.Goals as goal

pub returns-in_err-facts : goal.returns-in_err-facts
returns-in_err-facts c =
    let top = c.args.top.now in
    let bottom = c.args.bottom.now in
    let e = c.in_err-facts.field-0.0 in
    let p = need_promised top bottom _ (passed_on _ e c.from_residual.ensures.1 ∙ need_refused top bottom e c.in_err-facts.ensures.number) in record {
      answer = p.0;
      number = p.1.0;
      entries = p.1.1;
    }

pub tracks_of-t-requires : goal.tracks_of-t-requires
tracks_of-t-requires c =
    let top = c.args.top.now in
    let bottom = c.args.bottom.now in
    let f = told_facts top bottom 256 _ _ c.in_ok-facts.ensures.answer refl in
    subst (λ (d : ℕ). d ≤ 256) (sym (ap (λ (f : NetFacts). f.size.density) f.1)) (density_small top bottom)

pub slice_length-requires : goal.slice_length-requires
slice_length-requires c =
    let top = c.args.top.now in
    let bottom = c.args.bottom.now in
    let f = told_facts top bottom 256 _ _ c.in_ok-facts.ensures.answer refl in
    let p = ap (λ (f : NetFacts). f.size.family) f.1 in
    let t = tracks_by top bottom _ _ _ (ap (λ (f : NetFacts). f.size.density) f.1) p c.tracks_of-t.ensures in
    let r = sweep_ready top bottom f.0 t p (ap (λ (f : NetFacts). f.first) f.1) (ap (λ (f : NetFacts). f.last) f.1) in record {
      planned = r.0;
      each_fits = r.1.0;
      narrow = r.1.1;
    }

pub returns : goal.returns
returns c =
    let top = c.args.top.now in
    let bottom = c.args.bottom.now in
    let f = told_facts top bottom 256 _ _ c.in_ok-facts.ensures.answer refl in
    let t = tracks_by top bottom _ _ _ (ap (λ (f : NetFacts). f.size.density) f.1) (ap (λ (f : NetFacts). f.size.family) f.1) c.tracks_of-t.ensures in
    let p = need_promised top bottom _ (need_stated top bottom _ _ f.0 t c.slice_length.ensures) in record {
      answer = p.0;
      number = p.1.0;
      entries = p.1.1;
    }
