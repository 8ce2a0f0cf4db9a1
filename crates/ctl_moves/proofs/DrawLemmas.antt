-- That a bind draws a pair more.
use Rattle.std.specs.Prelude.{◌≡◌, ◌⊎◌, ◌<◌, ◌+◌, ◌^◌, ◌||◌, ◌++◌, ◌∷◌, [], ℕ, Bool, false, List, Option, Some, All, flat_map, length, map, refl}
use Rattle.std.proofs.Common.{arith, sym, ap, ◌∙◌, subst, inl, inr}
use Rattle.std.proofs.lemmas.Bool.{cases_eq}
use Rattle.std.proofs.lemmas.List.{append-nil, append_assoc, length-map, length_push, map-append}
use Rattle.std.proofs.lemmas.List.Concat.{flat_map-append}
use Rattle.std.proofs.lemmas.List.Elements.{All-pop, All-push}
use Rattle.std.proofs.lemmas.List.Folds.{list_any-append}
use Rattle.zq_base.specs.declared.ids.EndId.{EndId}
use Rattle.zq_base.specs.declared.ids.ObjId.{ObjId}
use Rattle.zq_base.specs.declared.ids.PairId.{PairId}
use Rattle.zq_base.specs.declared.kind.Kind.{Kind}
use Rattle.spec_control.specs.declared.entry.Joining.{Joining}
use Rattle.spec_control.specs.declared.entry.PipeName.{PipeName}
use Rattle.spec_control.specs.Rows.{PairRow, obj}
use Rattle.spec_control.specs.Control.{Control, draws, end_of, is_end}
use Rattle.spec_control.specs.Held.{Held}
use Rattle.desk.specs.declared.load.Load.{Load}
use Rattle.desk.specs.Holding.{HasNowhere, Holding, MayRefuse, has_end}
use Rattle.ctl_state.specs.declared.state.State.{State}
use Rattle.ctl_state.specs.Pairs.{entry_drawn}
use Rattle.ctl_state.specs.Stands.{Stands}
use Rattle.ctl_moves.specs.declared.joining_ends.FirstEnd.{FirstEnd}
use Rattle.ctl_moves.specs.declared.joining_ends.Names.{Names}
use Rattle.ctl_moves.specs.declared.owners.Owners.{Owners}
use Rattle.ctl_moves.specs.declared.papers.Papers.{Papers}
use Rattle.ctl_moves.specs.JoiningEnds.{AttachesFirst, held_first}
use Rattle.ctl_moves.specs.Joined.{Gets}
use Rattle.ctl_moves.specs.JoinNoting.{joins_named, pipes_named}
use Rattle.ctl_moves.specs.Papers.{AreMarked, ArePapers, HasMarks, MayMake}
use Rattle.ctl_moves.specs.Room.{AreOwners, HasDrawn, HavePlaces, with_drawn}
use Rattle.ctl_moves.specs.declared.batch.Drawn.{Drawn}
use Rattle.ctl_moves.specs.declared.batch.Batch.{Batch}
use Rattle.ctl_moves.specs.Batch.{behind, held_of, joins_of, opened_of, row_of}
use Rattle.ctl_moves.specs.Drawing.{AreTaken, Draws, HasJoinedMore, HasPlace, IsDrawn, MayDrawNext}
use Rattle.ctl_moves.proofs.BindCameLemmas.{came_more}
use Rattle.ctl_moves.proofs.TakenLemmas.{active_more, all_below, drawn_boxes, drawn_last, drawn_pairs, drawn_places, gets_more, not_among, numbered_push}

module _ {N O I : Type 0} (out_name : O → N) (in_name : I → N) (s : State (Load N O I)) (k : Holding N) (i x : ObjId) (b : Batch N O I) (wakers : ℕ) (m : MayDrawNext out_name in_name s k i x b wakers) where
  abbrev c : Control
  c = m.may.control

  abbrev ds : List (Drawn N O I)
  ds = b.drawn.items

  abbrev rs : List PairRow
  rs = map row_of b.drawn.items

  abbrev had : Holding N
  had = m.had

  pub theirs : HasPlace m.before m.may.control x
  theirs = (All-pop (HasPlace m.before c) (m.done ++ x ∷ []) m.done (Some x) refl m.may.theirs).1

  -- as many were drawn as sockets were gone over
  many_are : length b.drawn.items ≡ length m.done
  many_are = sym (length-map ds (λ (d : Drawn N O I). d.o.last)) ∙ ap (λ (ws : List ObjId). length ws) m.draws.waiters

  pairs_are : length s.pairs ≡ length m.before.pairs + length b.drawn.items
  pairs_are = ap (λ (t : State (Load N O I)). length t.pairs) m.draws.taken.is ∙ drawn_pairs ds m.before

  pub few_numbers : length s.pairs < 2 ^ 32
  few_numbers =
      let are = pairs_are in
      let many = m.may.stands.pairs.many in
      let few = m.may.few_pairs in
      let more = length_push m.done x in
      let same = many_are in
      omega (arith, are, many, few, more, same)

  boxes_are : length s.boxes ≡ length m.before.boxes
  boxes_are = ap (λ (t : State (Load N O I)). length t.boxes) m.draws.taken.is ∙ drawn_boxes ds m.before

  module _ (o : Owners) (are : AreOwners (behind (map row_of b.drawn.items) m.may.control) i x o) where
    abbrev pub marked : AreMarked s o
    marked = record {
      control = behind (map row_of b.drawn.items) m.may.control;
      stands = m.draws.stands;
      first = subst (λ (y : ObjId). HasMarks (obj c.rows y.0)) (sym are.first) m.may.mine.marks;
      last = subst (λ (y : ObjId). HasMarks (obj c.rows y.0)) (sym are.last) theirs.marks;
    }

    -- what may be made for the two sockets
    pub makes_now : (end : EndId) (may_make : EndId → ℕ → ℕ → Type 0) → MayMake s i x end may_make → MayMake s o.first o.last end may_make
    makes_now end may_make makes = subst (λ (y : ObjId). MayMake s y o.last end may_make) (sym are.first) (subst (λ (y : ObjId). MayMake s i y end may_make) (sym are.last) makes)

    places_before : HavePlaces m.before o
    places_before = record {
      first_box = subst (λ (n : ℕ). n < length m.before.boxes) are.first_slot m.may.mine.box;
      last_box = subst (λ (n : ℕ). n < length m.before.boxes) are.last_slot theirs.box;
      first_list = subst (λ (y : ObjId). y.0 < length m.before.objects.lists) (sym are.first) m.may.mine.list;
      last_list = subst (λ (y : ObjId). y.0 < length m.before.objects.lists) (sym are.last) theirs.list;
    }

    pub places_now : HavePlaces s o
    places_now = subst (λ (t : State (Load N O I)). HavePlaces t o) (sym m.draws.taken.is) (drawn_places ds m.before o places_before)

    pub first_waker : o.first_slot.0 < wakers
    first_waker = let there = places_now.first_box in let all = m.may.wakers_there in let same = boxes_are in omega (arith, there, all, same)

    pub last_waker : o.last_slot.0 < wakers
    last_waker = let there = places_now.last_box in let all = m.may.wakers_there in let same = boxes_are in omega (arith, there, all, same)

    module _ (pair : PairId) (number : pair.0 ≡ length s.pairs) where
      number_is : pair.0 ≡ length m.before.pairs + length b.drawn.items
      number_is = number ∙ pairs_are

      below : All (λ (y : Held N). y.end.pair.0 < pair.0) (map held_of b.drawn.items)
      below = all_below (length m.before.pairs) ds m.draws.taken.numbers pair.0 (let is = number_is in omega (arith, is))

      mine_not : has_end (end_of pair.0 false) (k.ends i.0) ≡ false
      mine_not =
          ap (has_end (end_of pair.0 false)) m.draws.taken.gets.ends ∙ list_any-append (λ (y : Held N). is_end (end_of pair.0 false) y.end) (had.ends i.0) (map held_of ds)
          ∙ ap (λ (h : Bool). h || has_end (end_of pair.0 false) (map held_of ds)) (m.draws.taken.fresh (end_of pair.0 false) (let is = number_is in omega (arith, is)))
          ∙ not_among (end_of pair.0 false) (map held_of ds) below

      pub not_there : HasNowhere (end_of pair.0 false) k
      not_there j holds = by (cases_eq j i.0)
        where
          by : (j ≡ i.0) ⊎ (j ≡ i.0 → ⊥) → has_end (end_of pair.0 false) (k.ends j) ≡ false
          by (inl same) = ap (λ (n : ℕ). has_end (end_of pair.0 false) (k.ends n)) same ∙ mine_not
          by (inr other) =
              ap (has_end (end_of pair.0 false)) (m.draws.taken.gets.others j other)
              ∙ m.draws.taken.elsewhere (end_of pair.0 false) (let is = number_is in omega (arith, is)) j (sym (m.draws.taken.gets.objects j) ∙ holds)

      module _ (t : State (Load N O I)) (is : t ≡ with_drawn false o s) where
        abbrev pub drawn_now : HasDrawn t false o
        drawn_now = record { before = s; places = places_now; is = is }

        pub last_number : pair.0 + 1 ≡ length t.pairs
        last_number = let all = ap (λ (y : State (Load N O I)). length y.pairs) is in let push = length_push s.pairs (entry_drawn o.last o.first) in omega (arith, all, push, number)

        module _ (stands : Stands t (draws o.last.0 o.first.0 (behind (map row_of b.drawn.items) m.may.control))) (said : Papers) (papers : ArePapers (behind (map row_of b.drawn.items) m.may.control) o said)
            (end : FirstEnd N O I) (l : Holding N) (attaches : AttachesFirst out_name in_name i.0 (end_of pair.0 false) said.peer end k l) where
          abbrev d : Drawn N O I
          d = record { o = o; pair = pair; identity = said.identity; answer = end.answer; other = end.other }

          told_is : end.told ≡ record { written = end.other.read; read = end.other.written }
          told_is =
              ap (λ (y : N). let z : Names N = record { written = y; read = end.told.read } in z) (sym attaches.other_read)
              ∙ ap (λ (y : N). let z : Names N = record { written = end.other.read; read = y } in z) (sym attaches.other_written)

          held_is : held_first (end_of pair.0 false) end ≡ held_of (record { o = o; pair = pair; identity = said.identity; answer = end.answer; other = end.other })
          held_is = ap (λ (y : Names N). let z : Held N = record { end = end_of pair.0 false; written = y.written; read = y.read } in z) told_is

          gets_one : Gets pair.0 i.0 (held_of (record { o = o; pair = pair; identity = said.identity; answer = end.answer; other = end.other }) ∷ []) k l
          gets_one = subst (λ (y : Held N). Gets pair.0 i.0 (y ∷ []) k l) held_is (attaches.gets pair.0 (omega arith))

          gets_now : Gets (length m.before.pairs) i.0 (map held_of b.drawn.items ++ held_of (record { o = o; pair = pair; identity = said.identity; answer = end.answer; other = end.other }) ∷ []) m.had l
          gets_now =
              gets_more (length m.before.pairs) i.0 (map held_of ds) (held_of d) had k l (let at = number_is in omega (arith, at)) below m.draws.taken.gets gets_one

          pub taken_now : AreTaken i.0 (b.drawn.items ++ record { o = o; pair = pair; identity = said.identity; answer = end.answer; other = end.other } ∷ []) m.before t m.had l
          taken_now = record {
            is = is ∙ ap (with_drawn false o) m.draws.taken.is ∙ sym (drawn_last ds d m.before);
            places = All-push (λ (y : Drawn N O I). HavePlaces m.before y.o) ds d m.draws.taken.places places_before;
            numbers = numbered_push (length m.before.pairs) ds d m.draws.taken.numbers number_is;
            fresh = m.draws.taken.fresh;
            elsewhere = m.draws.taken.elsewhere;
            gets = subst (λ (hs : List (Held N)). Gets (length m.before.pairs) i.0 hs had l) (sym (map-append held_of ds (d ∷ []))) gets_now;
            active = λ e here.
                active_more (length m.before.pairs) i.0 (map held_of ds) (held_of d) had k l below m.draws.taken.gets gets_one m.draws.taken.active attaches.active e (sym (ap (has_end e) (map-append held_of ds (d ∷ []))) ∙ here);
            turns = attaches.turned.turns ∙ append-nil k.turns ∙ m.draws.taken.turns;
            sealed = attaches.turned.sealed ∙ append-nil k.sealed ∙ m.draws.taken.sealed;
            came = subst (λ (n : ℕ). HasJoinedMore n had l) (sym (length_push ds d)) (came_more had k l (length ds) (joins_named (end_of pair.0 false) said.peer end.answer end.told) m.draws.taken.came attaches.came);
            heard = attaches.heard ∙ m.draws.taken.heard;
          }

          pub draws_now : (e : Batch N O I) → e.drawn.items ≡ b.drawn.items ++ record { o = o; pair = pair; identity = said.identity; answer = end.answer; other = end.other } ∷ [] →
              e.notes.joined.items ≡ b.notes.joined.items ++ joins_named (end_of pair.0 false) said.peer end.answer end.told ∷ [] → e.notes.opened.items ≡ b.notes.opened.items ++ pipes_named (end_of pair.0 false) end.opened →
              Draws out_name in_name m.may.control i (m.done ++ x ∷ []) e.drawn.items e.notes m.before t m.had l
          draws_now e items joined opened = subst (λ (ys : List (Drawn N O I)). Draws out_name in_name m.may.control i (m.done ++ x ∷ []) ys e.notes m.before t m.had l) (sym items) (record {
            taken = taken_now;
            stands = stands_now;
            waiters = map-append (λ (y : Drawn N O I). y.o.last) ds (d ∷ []) ∙ ap (λ (ws : List ObjId). ws ++ o.last ∷ []) m.draws.waiters ∙ ap (λ (y : ObjId). m.done ++ y ∷ []) are.last;
            drawn = All-push (IsDrawn out_name in_name c i (had.kind i.0)) ds d m.draws.drawn drawn_is;
            came = attaches.came ∙ ap (λ (js : List (Joining N)). js ++ joins_named (end_of pair.0 false) said.peer end.answer end.told ∷ []) m.draws.came
                ∙ append_assoc had.joined b.notes.joined.items (joins_named (end_of pair.0 false) said.peer end.answer end.told ∷ []) ∙ ap (λ (js : List (Joining N)). had.joined ++ js) (sym joined);
            joined = joined ∙ ap (λ (js : List (Joining N)). js ++ joins_named (end_of pair.0 false) said.peer end.answer end.told ∷ []) m.draws.joined
                ∙ ap (λ (n : Names N). map (joins_of c) ds ++ joins_named (end_of pair.0 false) said.peer end.answer n ∷ []) told_is
                ∙ ap (λ (p : List ℕ). map (joins_of c) ds ++ joins_named (end_of pair.0 false) p end.answer (record { written = end.other.read; read = end.other.written }) ∷ []) papers.peer
                ∙ sym (map-append (joins_of c) ds (d ∷ []));
            opened = opened ∙ ap (λ (ns : List (PipeName N)). ns ++ pipes_named (end_of pair.0 false) end.opened) m.draws.opened
                ∙ ap (λ (n : Names N). flat_map opened_of ds ++ pipes_named (end_of pair.0 false) n) (attaches.opened ∙ told_is)
                ∙ sym (flat_map-append opened_of ds (d ∷ []));
          })
            where
              drawn_is : IsDrawn out_name in_name m.may.control i (m.had.kind i.0) (record { o = o; pair = pair; identity = said.identity; answer = end.answer; other = end.other })
              drawn_is = record {
                owners = record {
                  first = are.first;
                  last = refl;
                  first_slot = are.first_slot;
                  last_slot = subst (λ (y : ObjId). (obj c.rows y.0).slot ≡ o.last_slot.0) (sym are.last) are.last_slot;
                };
                identity = papers.identity ∙ ap (λ (y : ObjId). (obj c.rows y.0).options.id) are.first;
                refuses = subst (λ (kind : Option Kind). MayRefuse kind end.answer) (m.draws.taken.gets.kinds i.0) attaches.refuses;
                halves = record { out = attaches.other_out; input = attaches.other_in };
              }

              stands_now : Stands t (behind (map row_of (b.drawn.items ++ record { o = o; pair = pair; identity = said.identity; answer = end.answer; other = end.other } ∷ [])) m.may.control)
              stands_now =
                  subst (λ (ps : List PairRow). Stands t (record c { rows = record c.rows { pairs = ps } }))
                  (append_assoc c.rows.pairs rs (row_of d ∷ []) ∙ ap (λ (ys : List PairRow). c.rows.pairs ++ ys) (sym (map-append row_of ds (d ∷ [])))) stands
