use Rattle.std.proofs.Common.{◌∙◌, sym, subst, ap, ℕ, ◌<◌, inl, inr}
use Rattle.morph_base.specs.Plans.{IsPlan, origin_at}
use Rattle.interleaving_core.specs.Core.{places}
use Rattle.op_words.specs.Hands.{cap_of, view_of}
use Rattle.op_words.specs.Kinds.{IsUsable}
use Rattle.op_words.proofs.Seeking.{source_other}
use Rattle.op_words.proofs.Handing.{kept, held_parts}
use Rattle.op_words.proofs.Fetching.{still_holds, source_usable, fetched_source, unfetched_source}
use Rattle.op_words.proofs.board.Board.read.Goals as goal

pub returns-then-not-is_usable-clause-answer : goal.returns-then-not-is_usable-clause-answer
returns-then-not-is_usable-clause-answer c =
    let q = c.requires.held in let is = c.requires.source in let b = c.args.self.now in let p = c.args.plan.now in let o = c.args.op in
    let h = c.args.hand.now in let g = c.look-word.new.hand in
    let other = (source_other p o c.args.j c.args.source (subst IsPlan (sym c.requires.may.1) c.requires.may.0.valid) c.requires.may.2 c.requires.in_places is).1 in
    let holds = still_holds b p (cap_of b) o c.args.j h g c.args.source c.look-word.result other is c.look-word.ensures q.0 q.1 q.2 q.0 q.1 q.2 in
    let attempt = (held_parts g c.in-Some.holding.now o q.0 q.1 (kept c.look-word.ensures.hand) c.in-Some.ensures holds).1 in
    let not = c.is_usable.ensures.unusable c.if-not-is_usable.true in
    unfetched_source b p (cap_of b) o c.args.j h g c.args.source c.look-word.result other is c.look-word.ensures q.0 q.1 q.2 c.requires.in_places not.0
    (elim not.1 [ inl idle ↦ inl idle | inr last ↦ inr (sym attempt ∙ c.is_last.ensures.0 last) ])

pub keep-requires-clause-held : goal.keep-requires-clause-held
keep-requires-clause-held c =
    let q = c.requires.held in let is = c.requires.source in let b = c.args.self.now in let p = c.args.plan.now in let o = c.args.op in
    let h = c.args.hand.now in let g = c.look-word.new.hand in
    let other = (source_other p o c.args.j c.args.source (subst IsPlan (sym c.requires.may.1) c.requires.may.0.valid) c.requires.may.2 c.requires.in_places is).1 in
    let holds = still_holds b p (cap_of b) o c.args.j h g c.args.source c.look-word.result other is c.look-word.ensures q.0 q.1 q.2 q.0 q.1 q.2 in
    let attempt = (held_parts g c.in-Some.holding.now o q.0 q.1 (kept c.look-word.ensures.hand) c.in-Some.ensures holds).1 in
    let ok = c.is_usable.ensures.usable c.if-not-is_usable.false in
    let usable = source_usable b p (cap_of b) o c.args.j h g c.args.source c.look-word.result other is c.look-word.ensures q.0 q.1 q.2 ok.0 (λ at. ok.1 (c.is_last.ensures.1 (attempt ∙ at))) in (
      o,
      q.0,
      q.1,
      holds,
      c.requires.may.2,
      subst (λ (n : ℕ). n < places p o) (sym q.3) c.requires.in_places,
      subst (λ (n : ℕ). IsUsable (view_of g) (cap_of b) q.0 (origin_at p o n) c.look-word.result.value) (sym q.3) usable,
    )

pub returns-clause-hand : goal.returns-clause-hand
returns-clause-hand c =
    let q = c.requires.held in
    (c.keep.ensures c.args.op q.0 q.1
    (ap (λ v. v.claim) c.look-word.ensures.view ∙ q.2)).hand

pub returns-clause-answer : goal.returns-clause-answer
returns-clause-answer c =
    let q = c.requires.held in let is = c.requires.source in let b = c.args.self.now in let p = c.args.plan.now in let o = c.args.op in
    let h = c.args.hand.now in let g = c.look-word.new.hand in
    let other = (source_other p o c.args.j c.args.source (subst IsPlan (sym c.requires.may.1) c.requires.may.0.valid) c.requires.may.2 c.requires.in_places is).1 in
    let holds = still_holds b p (cap_of b) o c.args.j h g c.args.source c.look-word.result other is c.look-word.ensures q.0 q.1 q.2 q.0 q.1 q.2 in
    let attempt = (held_parts g c.in-Some.holding.now o q.0 q.1 (kept c.look-word.ensures.hand) c.in-Some.ensures holds).1 in
    let ok = c.is_usable.ensures.usable c.if-not-is_usable.false in
    fetched_source b p (cap_of b) o c.args.j h g c.args.source c.look-word.result other is c.look-word.ensures q.0 q.1 q.2 c.keep.new.hand ok.0 (λ at. ok.1 (c.is_last.ensures.1 (attempt ∙ at)))
    (λ n zs held. c.keep.ensures o n zs held)
