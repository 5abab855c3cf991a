use Rattle.std.proofs.Common.{◌≡◌, ap, sym, ◌∙◌, arith, rules}
use Rattle.smb_info.specs.Asks.{list_asked}
use Rattle.smb_info.specs.Queries.{ListAsked}
use Rattle.smb_request.proofs.Listings.{owned_scanned, listed_within, fits_behind, refusal_comes, refusal_listed, cut_off}
use Rattle.smb_request.proofs.server.Server.list_directory.Goals as goal

pub invariant_of-self : goal.invariant_of-self
invariant_of-self g c = rw c.set_scan.ensures
    (record {
      lawful = c.self.invariant.lawful;
      named = c.self.invariant.named;
      room = c.self.invariant.room;
      owned = owned_scanned c.self.inside.sessions.table c.args.call.open_number c.in-Ok.scan c.self.inside.store.opens c.self.invariant.owned;
    })

pub close_query_response-requires-clause-fits : goal.close_query_response-requires-clause-fits
close_query_response-requires-clause-fits g c =
    let within = listed_within c.self.inside.store c.args.call.open_number (list_asked c.list_ask-ask.result) in
    let same = ap (λ (a : ListAsked). a.room) c.list_ask-ask.ensures in
    (fits_behind c.args.out.now.items _ _ _ _ c.args.asked.now.output_buffer_length c.in_ok-start.ensures.ok c.in_ok-start.ensures.start c.in-Ok.ensures.ok (omega (arith, within, same)) c.requires.room).0

pub returns-in-Ok-clause-len : goal.returns-in-Ok-clause-len
returns-in-Ok-clause-len g c =
    let within = listed_within c.self.inside.store c.args.call.open_number (list_asked c.list_ask-ask.result) in
    let same = ap (λ (a : ListAsked). a.room) c.list_ask-ask.ensures in
    let behind = (fits_behind c.args.out.now.items _ _ _ _ c.args.asked.now.output_buffer_length c.in_ok-start.ensures.ok c.in_ok-start.ensures.start c.in-Ok.ensures.ok (omega (arith, within, same)) c.requires.room).1 in
    let long = c.close_query_response.ensures.len in
    omega (arith, behind, long)

-- what is not out of memory comes to something
pub unreachable-requires : goal.unreachable-requires
unreachable-requires g c =
    refusal_comes c.self.inside.store c.args.call.open_number (list_asked c.list_ask-ask.result) c.in-Err.fault
    c.in_default.not-NoMemory c.in-Err.ensures.why _ (sym c.listing_refusal.ensures ∙ c.in_default-listing_refusal.is)

pub returns-in_ok-answered-in_default : goal.returns-in_ok-answered-in_default
returns-in_ok-answered-in_default g c =
    let listed = refusal_listed c.self.inside.store c.args.call.open_number (list_asked c.list_ask-ask.result) c.in-Err.fault c.in-Some.refusal
    c.in-Err.ensures.why _ (sym c.listing_refusal.ensures ∙ c.in-Some.is) in
    let front : c.truncate.new.self.items ≡ c.args.out.now.items = cut_off c.args.out.now.items _ _ _ _ _ c.in_ok-start.ensures.ok c.in-Err.ensures.err c.in_ok-start.ensures.start c.truncate.ensures.items in
    record { server = search rules; ok = search rules; len = search rules; err = search rules; out = search rules; kept = search rules; known = search rules }
