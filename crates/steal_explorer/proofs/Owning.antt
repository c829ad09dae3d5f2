-- What popping, stealing and pushing leave of a worker's deque and tickets.
use Rattle.std.proofs.Common.{◌≡◌, ℕ, ◌+◌, ◌-◌, ◌^◌, ◌<◌, ◌≤◌, List, [], ◌∷◌, ◌++◌, length, min, refl, sym, ap, ◌∙◌, subst, arith, length-append}
use Rattle.std.specs.Prelude.{All, sum_by}
use Rattle.std.proofs.lemmas.Bool.{false≢true}
use Rattle.std.proofs.lemmas.List.Elements.{All-push}
use Rattle.std.proofs.lemmas.List.Sums.{sum_by_push}
use Rattle.crossbeam_deque.specs.Handles.{view, worker_index, worker_view, SameWorker}
use Rattle.morph_base.specs.Contents.{Contents}
use Rattle.morph_base.specs.declared.plan.Plan.{Plan}
use Rattle.morph_base.specs.Plans.{op_count}
use Rattle.op_words.specs.Hands.{up_to}
use Rattle.op_eval.specs.declared.explored.RunEnd.{RunEnd}
use Rattle.op_eval.specs.declared.runner.Runner.{Runner}
use Rattle.steal_explorer.specs.declared.find.Found.{Found}
use Rattle.steal_explorer.specs.declared.find.Found.TheVariants.{Item, Nothing, Retry}
use Rattle.steal_explorer.specs.declared.deque_rule.Log.{Log}
use Rattle.steal_explorer.specs.declared.member.Member.{Member}
use Rattle.steal_explorer.specs.Alone.{FindsAlone}
use Rattle.steal_explorer.specs.Handing.{one, parts_of, put, got, MayBeEmpty}
use Rattle.steal_explorer.specs.Members.{Owner, Thief, Ticket, own, tickets_of, stolen_by, HasDeque, AreSeated, HasTickets}
use Rattle.steal_explorer.specs.Finding.{weight_of, StealsRound, Finds}

-- the list of items that a hold pushed
abbrev pushed_in : Log → List ℕ
pushed_in v = v.pushed

-- ---- a pop

module _ (a : Member) (o : Owner) (op : ℕ) (same : SameWorker a.owner o) (pops : worker_view o ≡ got (own a) (op ∷ [])) where
  abbrev popped : Member
  popped = record a { owner = o }

  pub popped_deque : (p : Plan) → HasDeque p a → HasDeque p popped
  popped_deque p is = record {
    fifo = same.1 ∙ is.fifo;
    part = let e : (worker_view o).parts ≡ (own a).parts = ap parts_of pops in let old = is.part in omega arith;
    below = subst (All (λ x. x < op_count p)) (sym (ap pushed_in pops)) is.below;
    handed = is.handed ∙ ap (λ (v : Log). up_to (length v.pushed)) (sym pops);
  }

  pub popped_tickets : (ts : List Thief) → HasTickets ts a → HasTickets ts popped
  popped_tickets ts is = record {
    inside = is.inside;
    few = is.few;
    deque = λ t. same.0 ∙ is.deque t;
    parts = let e : (worker_view o).parts ≡ (own a).parts = ap parts_of pops in let old = is.parts in omega arith;
    bare_stolen = ap (λ (v : Log). v.stolen) pops ∙ is.bare_stolen;
    bare_left = ap (λ (v : Log). v.left) pops ∙ is.bare_left;
    len = is.len;
    under = is.under;
    above = is.above;
    guest = is.guest;
    stolen = is.stolen;
  }

  pub popped_finds : (ts : List Thief) → Finds ts (Item op) a popped
  popped_finds ts = record {
    runner = refl;
    number = refl;
    end = refl;
    deque = same.0;
    pushed = ap pushed_in pops;
    takes = λ h.
        let e : sum_by h (worker_view o).popped ≡ sum_by h ((own a).popped ++ op ∷ []) = ap (λ (v : Log). sum_by h v.popped) pops in
        let f : sum_by h ((own a).popped ++ op ∷ []) ≡ sum_by h (own a).popped + h op = sum_by_push h (own a).popped op in
        omega arith;
    missed = λ none. absurd (false≢true (sym none));
    empty = λ e. absurd (apart e);
    alone = λ _ e. apart' e;
  }
    where
      apart : Item op ≡ Nothing → ⊥
      apart e = cc

      apart' : Item op ≡ Retry → ⊥
      apart' e = cc

-- ---- its own deque was empty, and it stole

module _ (a : Member) (o : Owner) (l : Contents Ticket) (s : ℕ) (f : Found) (same : SameWorker a.owner o) (still : worker_view o ≡ own a) where
  abbrev stole : Member
  stole = record a { owner = o; tickets = l; stolen = s }

  pub stole_deque : (p : Plan) → HasDeque p a → HasDeque p stole
  stole_deque p is = record {
    fifo = same.1 ∙ is.fifo;
    part = let e : (worker_view o).parts ≡ (own a).parts = ap parts_of still in let old = is.part in omega arith;
    below = subst (All (λ x. x < op_count p)) (sym (ap pushed_in still)) is.below;
    handed = is.handed ∙ ap (λ (v : Log). up_to (length v.pushed)) (sym still);
  }

  pub stole_alone : worker_index o ≤ worker_index a.owner → MayBeEmpty (own a) → f ≡ Nothing → FindsAlone f a stole
  stole_alone index was none = subst (λ g. FindsAlone g a stole) (sym none) (record { slots = same.3; index = index; found = (still, was) })

  module _ (ts : List Thief) (is : HasTickets ts a) (round : StealsRound a.number (length ts) f (tickets_of a) l.items) where
    pub stole_tickets : AreSeated ts 0 a.number l.items → AreSeated ts (a.number + 1) (length ts) l.items → s ≡ min (a.stolen + weight_of one f) (2 ^ 64 - 1) → HasTickets ts stole
    stole_tickets under above counts = record {
      inside = is.inside;
      few = is.few;
      deque = λ t. same.0 ∙ is.deque t;
      parts = let e : (worker_view o).parts ≡ (own a).parts = ap parts_of still in let old = is.parts in omega arith;
      bare_stolen = ap (λ (v : Log). v.stolen) still ∙ is.bare_stolen;
      bare_left = ap (λ (v : Log). v.left) still ∙ is.bare_left;
      len = round.len ∙ is.len;
      under = under;
      above = above;
      guest = λ x. ap (λ (y : Ticket). view y) (round.guest x) ∙ is.guest x;
      stolen = let e : stolen_by one l.items ≡ stolen_by one (tickets_of a) + weight_of one f = round.gets one in let old : a.stolen ≡ up_to (stolen_by one (tickets_of a)) = is.stolen in omega arith;
    }

    pub stole_finds : MayBeEmpty (own a) → Finds ts f a stole
    stole_finds was = record {
      runner = refl;
      number = refl;
      end = refl;
      deque = same.0;
      pushed = ap pushed_in still;
      takes = λ h.
          let e : sum_by h (worker_view o).popped ≡ sum_by h (own a).popped = ap (λ (v : Log). sum_by h v.popped) still in
          let g : stolen_by h l.items ≡ stolen_by h (tickets_of a) + weight_of h f = round.gets h in
          omega arith;
      missed = λ none. let both = round.missed none in (subst MayBeEmpty (sym still) was, both.0, both.1);
      empty = λ e. let both = round.empty e in (subst MayBeEmpty (sym still) was, both.0, both.1);
      alone = λ single retried. apart (sym (round.alone single) ∙ retried);
    }
      where
        apart : Nothing ≡ Retry → ⊥
        apart e = cc

-- ---- a push

module _ (p : Plan) (a : Member) (o : Owner) (op h : ℕ) (same : SameWorker a.owner o) (puts : worker_view o ≡ put (own a) (op ∷ [])) where
  pub pushed_deque : HasDeque p a → op < op_count p → h ≡ min (a.handed + 1) (2 ^ 64 - 1) → HasDeque p (record a { owner = o; handed = h })
  pushed_deque is lt counts = record {
    fifo = same.1 ∙ is.fifo;
    part = let e : (worker_view o).parts ≡ (own a).parts = ap parts_of puts in let old = is.part in omega arith;
    below = subst (All (λ x. x < op_count p)) (sym (ap pushed_in puts)) (All-push (λ x. x < op_count p) (own a).pushed op is.below lt);
    handed =
        let e : length (worker_view o).pushed ≡ length ((own a).pushed ++ op ∷ []) = ap (λ (v : Log). length v.pushed) puts in
        let f : length ((own a).pushed ++ op ∷ []) ≡ length (own a).pushed + 1 = length-append (own a).pushed (op ∷ []) in
        let old : a.handed ≡ up_to (length (own a).pushed) = is.handed in
        omega arith;
  }

-- a push was refused, and the runner did something else
pub refused_deque : (p : Plan) (a : Member) (o : Owner) (r : Runner) → SameWorker a.owner o → worker_view o ≡ own a → HasDeque p a → HasDeque p (record a { runner = r; owner = o })
refused_deque p a o r same still is = record {
  fifo = same.1 ∙ is.fifo;
  part = let e : (worker_view o).parts ≡ (own a).parts = ap parts_of still in let old = is.part in omega arith;
  below = subst (All (λ x. x < op_count p)) (sym (ap pushed_in still)) is.below;
  handed = is.handed ∙ ap (λ (v : Log). up_to (length v.pushed)) (sym still);
}

-- it noted why it ended
module _ (a : Member) (e : RunEnd) where
  pub ended_deque : (p : Plan) → HasDeque p a → HasDeque p (record a { end = e })
  ended_deque p is = record { fifo = is.fifo; part = is.part; below = is.below; handed = is.handed }

  pub ended_tickets : (ts : List Thief) → HasTickets ts a → HasTickets ts (record a { end = e })
  ended_tickets ts is = record {
    inside = is.inside;
    few = is.few;
    deque = is.deque;
    parts = is.parts;
    bare_stolen = is.bare_stolen;
    bare_left = is.bare_left;
    len = is.len;
    under = is.under;
    above = is.above;
    guest = is.guest;
    stolen = is.stolen;
  }
