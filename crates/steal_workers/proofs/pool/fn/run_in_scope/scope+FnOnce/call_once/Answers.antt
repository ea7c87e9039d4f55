use Rattle.steal_workers.proofs.pool.fn.run_in_scope.scope+FnOnce.call_once.Goals as goal

-- `search` meets a limit at so many bounds. A closure's requires are its lifetimes, what it says of its captures, and the bounds; the body's
-- are the bounds and what it says.
pub scope-requires : goal.scope-requires
scope-requires g c =
    let said = c.requires.1.1.1.1 in
    let bounds = said.1 in
    (bounds.0, (bounds.1, (bounds.2, (bounds.3, (bounds.4, (bounds.5, said.0))))))
