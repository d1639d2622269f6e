use Rattle.std.proofs.Common.{◌∙◌, sym, ap, subst, length, drop, get_or, Some, arith, ℕ, List}
use Rattle.std.specs.Option.{option_map}
use Rattle.script_grammar.specs.Session.{Session, call_line}
use Rattle.script_grammar.specs.Limits.{IsSession}
use Rattle.script_grammar.specs.Printing.{line_words}
use Rattle.script_reader.proofs.Seams.{rest_of}
use Rattle.session_script.proofs.Kept.{limits, starts_here, line_here, words_cut, not_whole}
use Rattle.session_script.proofs.script.Script.line.Goals as goal

pub index-starts-requires : goal.index-starts-requires
index-starts-requires c =
    let s = c.self.inside in
    let here = starts_here c.self.invariant.0 s.starts.items c.args.client c.args.k c.args.self.now c.self.invariant.1 c.self.view_is c.requires in
    omega (arith, here.below, s.starts.ok.0)

pub at-start-requires : goal.at-start-requires
at-start-requires c =
    let s = c.self.inside in
    let here = starts_here c.self.invariant.0 s.starts.items c.args.client c.args.k c.args.self.now c.self.invariant.1 c.self.view_is c.requires in
    omega (arith, here.line, ap length (c.index-starts.ensures ∙ here.starts c.index-starts.result.now))

pub slice_bounds-rest-count : goal.slice_bounds-rest-count
slice_bounds-rest-count c =
    let s = c.self.inside in
    let k = c.args.k in
    let here = starts_here c.self.invariant.0 s.starts.items c.args.client k c.args.self.now c.self.invariant.1 c.self.view_is c.requires in
    let found = line_here c.self.invariant.0 c.args.client k c.at-start.result here.few (c.at-start.ensures ∙ ap (λ (p : List ℕ). get_or p k 0) (c.index-starts.ensures ∙ here.starts c.index-starts.result.now)) in
    omega (arith, found.at.within, ap length c.deref.ensures.value)

pub slice_bounds-rest-start : goal.slice_bounds-rest-start
slice_bounds-rest-start c =
    let s = c.self.inside in
    let k = c.args.k in
    let here = starts_here c.self.invariant.0 s.starts.items c.args.client k c.args.self.now c.self.invariant.1 c.self.view_is c.requires in
    let found = line_here c.self.invariant.0 c.args.client k c.at-start.result here.few (c.at-start.ensures ∙ ap (λ (p : List ℕ). get_or p k 0) (c.index-starts.ensures ∙ here.starts c.index-starts.result.now)) in
    omega (arith, found.at.within, ap length c.deref.ensures.value)

pub unreachable-requires : goal.unreachable-requires
unreachable-requires c =
    let s = c.self.inside in
    let k = c.args.k in
    let here = starts_here c.self.invariant.0 s.starts.items c.args.client k c.args.self.now c.self.invariant.1 c.self.view_is c.requires in
    let found = line_here c.self.invariant.0 c.args.client k c.at-start.result here.few (c.at-start.ensures ∙ ap (λ (p : List ℕ). get_or p k 0) (c.index-starts.ensures ∙ here.starts c.index-starts.result.now)) in
    let rest = rest_of c.deref.result.now c.at-start.result ∙ ap (drop c.at-start.result) c.deref.ensures.value in
    not_whole _ found.at.more found.line (rest ∙ found.at.rest) found.at.plain c.in-None.ensures

pub returns-clause-words : goal.returns-clause-words
returns-clause-words c =
    let s = c.self.inside in
    let client = c.args.client in
    let k = c.args.k in
    let here = starts_here c.self.invariant.0 s.starts.items client k c.args.self.now c.self.invariant.1 c.self.view_is c.requires in
    let found = line_here c.self.invariant.0 client k c.at-start.result here.few (c.at-start.ensures ∙ ap (λ (p : List ℕ). get_or p k 0) (c.index-starts.ensures ∙ here.starts c.index-starts.result.now)) in
    let rest = rest_of c.deref.result.now c.at-start.result ∙ ap (drop c.at-start.result) c.deref.ensures.value in
    let same = words_cut _ found.at.more c.in-Some.line.now c.in-Some.field-0-1.now found.line (rest ∙ found.at.rest) found.at.plain c.in-Some.ensures.0 in
    sym (ap (λ (v : Session). option_map line_words (call_line v client k)) c.self.view_is)
    ∙ ap (option_map line_words) found.is
    ∙ ap Some (sym same)

pub returns-clause-session : goal.returns-clause-session
returns-clause-session c = subst IsSession c.self.view_is (limits c.self.invariant.0)
