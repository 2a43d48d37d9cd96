-- `route_within` meets its contract.
use Prim.Native.Nat.{ℕ, ◌≤◌}
use mathlib.Core.Path.{refl, ap, subst, sym, ◌∙◌}
use Rattle.grid.specs.declared.NetFacts.{NetFacts}
use Rattle.grid.proofs.Numbers.{passed_on}
use Rattle.grid.proofs.OpenNets.{density_small}
use Rattle.grid.proofs.Answers.{told_facts, accepted}
use Rattle.router.proofs.Laws.Calls.{tracks_by, sweep_ready, short_by, long_by, rows_refused_lem, slice_refused, channel_drawn, promised}
use Rattle.router.proofs.route_within.Goals as goal

pub returns-in_err-facts : goal.returns-in_err-facts
returns-in_err-facts c =
    let a = c.args in
    let top = a.top.now in
    let bottom = a.bottom.now in
    let old = a.layout.now in
    let e = c.in_err-facts.field-0.0 in
    let r = rows_refused_lem top bottom a.most old e c.in_err-facts.ensures.number in
    let p = promised top bottom a.most old old _ (passed_on _ e c.from_residual.ensures.1 ∙ r.0) r.1 in record {
      answer = p.0;
      drawing = p.1.0;
      solution = p.1.1.0;
      number = p.1.1.1.0;
      figures = p.1.1.1.1;
    }

pub tracks_of-t-requires : goal.tracks_of-t-requires
tracks_of-t-requires c =
    let a = c.args in
    let f = told_facts a.top.now a.bottom.now a.most _ _ c.in_ok-facts.ensures.answer refl in
    subst (λ (d : ℕ). d ≤ 256) (sym (ap (λ (f : NetFacts). f.size.density) f.1)) (density_small a.top.now a.bottom.now)

pub is_short-requires : goal.is_short-requires
is_short-requires c =
    let a = c.args in
    let top = a.top.now in
    let bottom = a.bottom.now in
    let f = told_facts top bottom a.most _ _ c.in_ok-facts.ensures.answer refl in
    let p = ap (λ (f : NetFacts). f.size.family) f.1 in
    let t = tracks_by top bottom _ _ _ (ap (λ (f : NetFacts). f.size.density) f.1) p c.tracks_of-t.ensures in
    let r = sweep_ready top bottom (accepted top bottom a.most f.0) t p (ap (λ (f : NetFacts). f.first) f.1) (ap (λ (f : NetFacts). f.last) f.1) in record {
      planned = r.0;
      each_fits = r.1.0;
      narrow = r.1.1;
    }

pub returns-then-is_short : goal.returns-then-is_short
returns-then-is_short c =
    let a = c.args in
    let top = a.top.now in
    let bottom = a.bottom.now in
    let old = a.layout.now in
    let f = told_facts top bottom a.most _ _ c.in_ok-facts.ensures.answer refl in
    let t = tracks_by top bottom _ _ _ (ap (λ (f : NetFacts). f.size.density) f.1) (ap (λ (f : NetFacts). f.size.family) f.1) c.tracks_of-t.ensures in
    let r = slice_refused top bottom a.most old f.0 (short_by top bottom _ _ _ t c.is_short.ensures c.if-is_short.true) in
    let p = promised top bottom a.most old old _ r.0 r.1 in record {
      answer = p.0;
      drawing = p.1.0;
      solution = p.1.1.0;
      number = p.1.1.1.0;
      figures = p.1.1.1.1;
    }

pub sweep_channel-w-requires : goal.sweep_channel-w-requires
sweep_channel-w-requires c =
    let a = c.args in
    let top = a.top.now in
    let bottom = a.bottom.now in
    let f = told_facts top bottom a.most _ _ c.in_ok-facts.ensures.answer refl in
    let p = ap (λ (f : NetFacts). f.size.family) f.1 in
    let t = tracks_by top bottom _ _ _ (ap (λ (f : NetFacts). f.size.density) f.1) p c.tracks_of-t.ensures in
    let r = sweep_ready top bottom (accepted top bottom a.most f.0) t p (ap (λ (f : NetFacts). f.first) f.1) (ap (λ (f : NetFacts). f.last) f.1) in record {
      planned = r.0;
      each_fits = r.1.0;
      narrow = r.1.1;
      long_enough = λ d. long_by top bottom _ _ _ c.is_short.ensures c.if-is_short.false;
    }

pub returns : goal.returns
returns c =
    let a = c.args in
    let top = a.top.now in
    let bottom = a.bottom.now in
    let old = a.layout.now in
    let f = told_facts top bottom a.most _ _ c.in_ok-facts.ensures.answer refl in
    let d = ap (λ (f : NetFacts). f.size.density) f.1 in
    let t = tracks_by top bottom _ _ _ d (ap (λ (f : NetFacts). f.size.family) f.1) c.tracks_of-t.ensures in
    let w = c.sweep_channel-w in
    let l = long_by top bottom _ _ _ c.is_short.ensures c.if-is_short.false in
    let r = channel_drawn top bottom a.most old _ _ _ _ f.0 l d t w.ensures.width w.ensures.drawing in
    let p = promised top bottom a.most old _ _ r.0 r.1 in record {
      answer = p.0;
      drawing = p.1.0;
      solution = p.1.1.0;
      number = p.1.1.1.0;
      figures = p.1.1.1.1;
    }
