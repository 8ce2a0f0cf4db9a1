use Rattle.std.proofs.Common.{◌≡◌, ◌∙◌, ◌∷◌, All, ap, sym, subst, List}
use Rattle.std.specs.Prelude.{position, slice_index_or}
use Rattle.std.specs.List.{list_any}
use Rattle.std.specs.Option.{option_copied}
use Rattle.std.proofs.lemmas.List.Elements.{All-head}
use Rattle.desk.specs.declared.given.Given.{Given}
use Rattle.closed_ends.specs.declared.sockets.ClosedSocket.{ClosedSocket}
use Rattle.closed_ends.specs.Has.{is_of, is_socket, ends_of}
use Rattle.closed_ends.specs.Finding.{AreTwoByTwo}
use Rattle.closed_ends.proofs.ListLemmas.{all_back, first_of, none_first, index_there}
use Rattle.closed_ends.proofs.ChangeLemmas.{own_ends, ends_none}
use Rattle.closed_ends.proofs.sockets.find.Goals as goal

pub find_end-requires : goal.find_end-requires
find_end-requires g c =
    let its = first_of (is_socket c.args.number.0) c.args.closed.now.sockets.items c.in-Some.socket.now (sym (c.requires.indexed c.args.number.0) ∙ sym c.get.ensures.value ∙ ap option_copied c.in-Some.is) in
    let one : c.index.result.now ≡ its.one = c.index.ensures ∙ ap (λ (l : List (ClosedSocket _ _ _)). slice_index_or l c.in-Some.socket.now c.index.result.now) its.are ∙ index_there its.before its.behind its.one c.index.result.now c.in-Some.socket.now its.at in
    let each = all_back (λ (s : ClosedSocket _ _ _). AreTwoByTwo s.ends.items) its.before (its.one ∷ its.behind) (subst (All (λ s. AreTwoByTwo s.ends.items)) its.are c.requires.apart) in
    record {
      apart = subst (λ (s : ClosedSocket _ _ _). AreTwoByTwo s.ends.items) (sym one) (All-head (λ (s : ClosedSocket _ _ _). AreTwoByTwo s.ends.items) its.one its.behind each);
    }

pub returns-in-Some-find_end-clause-found : goal.returns-in-Some-find_end-clause-found
returns-in-Some-find_end-clause-found g c =
    let its = first_of (is_socket c.args.number.0) c.args.closed.now.sockets.items c.in-Some.socket.now (sym (c.requires.indexed c.args.number.0) ∙ sym c.get.ensures.value ∙ ap option_copied c.in-Some.is) in
    let one : c.index.result.now ≡ its.one = c.index.ensures ∙ ap (λ (l : List (ClosedSocket _ _ _)). slice_index_or l c.in-Some.socket.now c.index.result.now) its.are ∙ index_there its.before its.behind its.one c.index.result.now c.in-Some.socket.now its.at in
    record {
      its = its;
      here = first_of (is_of c.args.end) its.one.ends.items c.in-Some-find_end.place
          (ap (λ (s : ClosedSocket _ _ _). position (is_of c.args.end) s.ends.items) (sym one) ∙ sym c.find_end.ensures ∙ c.in-Some-find_end.is);
    }

pub returns-in-None-find_end-clause-none : goal.returns-in-None-find_end-clause-none
returns-in-None-find_end-clause-none g c =
    let its = first_of (is_socket c.args.number.0) c.args.closed.now.sockets.items c.in-Some.socket.now (sym (c.requires.indexed c.args.number.0) ∙ sym c.get.ensures.value ∙ ap option_copied c.in-Some.is) in
    let one : c.index.result.now ≡ its.one = c.index.ensures ∙ ap (λ (l : List (ClosedSocket _ _ _)). slice_index_or l c.in-Some.socket.now c.index.result.now) its.are ∙ index_there its.before its.behind its.one c.index.result.now c.in-Some.socket.now its.at in
    ap (λ (l : List (ClosedSocket _ _ _)). list_any (is_of c.args.end) (ends_of l c.args.number.0)) its.are
    ∙ ap (list_any (is_of c.args.end)) (own_ends c.args.number.0 its.before its.behind its.one its.others its.is)
    ∙ none_first (is_of c.args.end) its.one.ends.items
    (ap (λ (s : ClosedSocket _ _ _). position (is_of c.args.end) s.ends.items) (sym one) ∙ sym c.find_end.ensures ∙ c.in-None-find_end.is)

pub returns-in-None-clause-none : goal.returns-in-None-clause-none
returns-in-None-clause-none g c =
    ap (list_any (is_of c.args.end)) (ends_none c.args.number.0 c.args.closed.now.sockets.items
    (none_first (is_socket c.args.number.0) c.args.closed.now.sockets.items (sym (c.requires.indexed c.args.number.0) ∙ sym c.get.ensures.value ∙ ap option_copied c.in-None.is)))
