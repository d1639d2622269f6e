-- Of which clients' calls a closed session is.
use Rattle.std.specs.Prelude.{◌≡◌, ℕ, ◌≤◌, List, [], map, length}
use Rattle.std.specs.List.{range_with_len}
use mathlib.Core.Option.{some}
use lib.ListN.{get_elem?}
use Rattle.qws_base.specs.Scenes.{Setting}
use Rattle.qws_base.specs.Shown.{shown_picture}
use Rattle.qws_base.specs.Histories.{Entry, World, step_entry, world_after, IsLegal, calls_of}
use Rattle.qws_base.specs.Merges.{merged}
use Rattle.qws_base.specs.Books.{BookView}
use Rattle.qws_base.specs.declared.journals.JournalEntry.{JournalEntry}
use Rattle.fb_words.specs.declared.known.Client.{Client}
use Rattle.fb_words.specs.Views.{PassView, books_in, client_of}
use Rattle.fb_words.specs.Rule.{OrderOk}
use Rattle.fb_words.specs.Steps.{arranged}
use Rattle.fb_words.specs.Desks.{paints_of, call_entry}
use Rattle.server_desk.specs.DeskViews.{ClosedView}

-- the merge of a journal with the clients' paints, which have the sheets of their pictures
abbrev pub history_in : List JournalEntry → List Client → List Entry
history_in journal clients = merged (map step_entry journal) (map paints_of clients)

-- the world after it
abbrev pub world_in : Setting → List JournalEntry → List Client → World
world_in setting journal clients = world_after setting (history_in journal clients)

-- the clients of some passes, by number, where n are connected
abbrev pub clients_of : ℕ → List PassView → List Client
clients_of n passes = arranged n (map (λ p. p.client) passes)

-- each pass stands for the client with its number, and the entries of that client are the pass's own calls
abbrev pub CallsAreOwn : List PassView → List Entry → Type 0
CallsAreOwn passes h = (k : ℕ) (p : PassView) → get_elem? passes k ≡ some p → calls_of h p.client.number ≡ map (call_entry p.client.number) p.client.own

-- the client's book, with room for its entries alone
abbrev pub book_among : List PassView → ℕ → BookView
book_among passes c = let entries = books_in (client_of c (map (λ p. p.client) passes)).own in record { client = c; limit = length entries; entries = entries }

-- the books of n clients, by number
abbrev pub books_among : List PassView → ℕ → List BookView
books_among passes n = map (book_among passes) (range_with_len 0 n)

-- the book is that of the client: its number, and the entries of its paints
pub record IsBookOf (client : Client) (book : BookView) : Type 0 where
  pub number : book.client ≡ client.number
  pub entries : book.entries ≡ books_in client.own

-- Client c stands at place c, and the books are the clients'; the stamps of each rise, up to the last number of the journal. The merge of the journal with their paints is a legal history. The
-- picture shown is that of the world after it, with the cursor above. Each client's entries in it are its calls, in order, and
-- there are no others.
pub record IsSessionOf (setting : Setting) (clients : List Client) (s : ClosedView) : Type 0 where
  pub size : s.size ≡ setting.size
  pub numbers : (c : ℕ) (p : Client) → get_elem? clients c ≡ some p → p.number ≡ c
  pub as_many : length s.books ≡ length clients
  pub books : (c : ℕ) (p : Client) (b : BookView) → get_elem? clients c ≡ some p → get_elem? s.books c ≡ some b → IsBookOf p b
  pub order : (c : ℕ) (p : Client) → get_elem? clients c ≡ some p → OrderOk (length s.journal) p
  pub legal : IsLegal setting (history_in s.journal clients)
  pub shown : s.shown ≡ shown_picture setting (world_in setting s.journal clients).state.cursor (world_in setting s.journal clients).scene
  pub calls : (c : ℕ) (p : Client) → get_elem? clients c ≡ some p → calls_of (history_in s.journal clients) c ≡ map (call_entry c) p.own
  pub no_others : (c : ℕ) → length clients ≤ c → calls_of (history_in s.journal clients) c ≡ []

-- a session of some screen and some clients
pub record IsSession (s : ClosedView) : Type 0 where
  pub setting : Setting
  pub clients : List Client
  pub of_them : IsSessionOf setting clients s
