-- What is made is a session, with so many calls.
use Rattle.std.proofs.Common.{◌≡◌, ℕ, ◌+◌, ◌*◌, ◌<◌, ◌≤◌, zero, suc, ◌^◌, [], ◌∷◌, length, refl, arith, length-append}
use Rattle.std.specs.Prelude.{All}
use Rattle.std.proofs.lemmas.List.Elements.{All-nil, All-cons}
use Rattle.qws_base.proofs.ListLemmas.{filter_le}
use Rattle.std.proofs.Math.Nat.{suc-mul, mul-le-mul_right}
use Rattle.script_grammar.specs.Session.{is_by}
use Rattle.script_grammar.specs.Limits.{IsPixel, IsCallLine, EachBehind}
use Rattle.script_grammar.proofs.Sound.{behind_push}
use Rattle.session_maker.specs.Kinds.{call_drawn}
use Rattle.session_maker.specs.Made.{Lines, with_calls, first_clients, made_assets}
use Rattle.session_maker.specs.Laws.{MakesSessions, MakesCalls}
use Rattle.session_maker.proofs.Allowed.{call_is}

calls_length : (client k : ℕ) (lines : Lines) → length (with_calls client k lines).calls ≡ length lines.calls + k
calls_length client zero lines = omega arith
calls_length client (suc k) lines =
    let more = length-append (with_calls client k lines).calls (record { client = client; call = (call_drawn client k (with_calls client k lines).state).call } ∷ []) in
    let rest = calls_length client k lines in
    omega arith

clients_length : (seed calls clients : ℕ) → length (first_clients seed calls clients).calls ≡ clients * calls
clients_length seed calls zero = omega arith
clients_length seed calls (suc client) =
    let more = calls_length client calls (first_clients seed calls client) in
    let rest = clients_length seed calls client in
    omega (arith, suc-mul client calls)

pub calls_made : MakesCalls
calls_made seed clients calls = clients_length seed calls clients

-- ---- limits

calls_are : (clients client k : ℕ) (lines : Lines) → client < clients → length lines.calls + k ≤ 65536 → EachBehind (IsCallLine clients made_assets) [] lines.calls → EachBehind (IsCallLine clients made_assets) [] (with_calls client k lines).calls
calls_are clients client zero lines known few each = each
calls_are clients client (suc k) lines known few each =
    let before : Lines = with_calls client k lines in
    let many = filter_le (is_by client) before.calls in
    let long = calls_length client k lines in
    behind_push (IsCallLine clients made_assets) [] before.calls _ (calls_are clients client k lines known (omega arith) each)
    (record { client = known; call = call_is client k before.state; room = omega arith })

clients_are : (seed clients calls n : ℕ) → n ≤ clients → clients ≤ 16 → calls ≤ 4096 → EachBehind (IsCallLine clients made_assets) [] (first_clients seed calls n).calls
clients_are seed clients calls zero within few most = tt
clients_are seed clients calls (suc n) within few most =
    let long = clients_length seed calls n in
    let less : n ≤ 15 = omega arith in
    let product = mul-le-mul_right calls less in
    calls_are clients n calls (first_clients seed calls n) (omega arith) (omega arith) (clients_are seed clients calls n (omega arith) few most)

pixels_are : All IsPixel (0xff102030 ∷ 0xff405060 ∷ 0xff708090 ∷ 0xffa0b0c0 ∷ [])
pixels_are =
    All-cons IsPixel 0xff102030 (0xff405060 ∷ 0xff708090 ∷ 0xffa0b0c0 ∷ []) (omega arith)
    (All-cons IsPixel 0xff405060 (0xff708090 ∷ 0xffa0b0c0 ∷ []) (omega arith)
    (All-cons IsPixel 0xff708090 (0xffa0b0c0 ∷ []) (omega arith) (All-cons IsPixel 0xffa0b0c0 [] (omega arith) (All-nil IsPixel))))

pub session_made : MakesSessions
session_made seed clients calls load = record {
  screen = record { some_w = omega arith; some_h = omega arith; most_w = omega arith; most_h = omega arith };
  backdrop = omega arith;
  clients = load.most_clients;
  assets = (
    (omega arith, omega arith, omega arith),
    (
      (
        omega arith,
        record {
          shape = record { some_width = omega arith; most_width = omega arith; rows_of_font = refl; bits = All-cons (λ row. row < 2 ^ 3) 2 (7 ∷ 5 ∷ []) (omega arith) (All-cons (λ row. row < 2 ^ 3) 7 (5 ∷ []) (omega arith) (All-cons (λ row. row < 2 ^ 3) 5 [] (omega arith) (All-nil (λ row. row < 2 ^ 3)))) };
          code = omega arith;
          new = refl;
        },
      ),
      (
        (
          record { some_w = omega arith; most_w = omega arith; some_h = omega arith; most_h = omega arith; whole = refl },
          pixels_are,
          omega arith,
        ),
        tt,
      ),
    ),
  );
  calls = clients_are seed clients calls clients (omega arith) load.most_clients load.most_calls;
}
